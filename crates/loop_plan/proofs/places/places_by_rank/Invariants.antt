use Rattle.std.proofs.Common.{◌≡◌, ◌<◌, ℕ, length}
use Rattle.std.specs.Prelude.{slice_index}
use Rattle.bound_program.specs.Values.{bound_of}
use Rattle.bound_program.specs.Fits.{site_at}
use Rattle.loop_plan.specs.Places.{places_of}
use Rattle.loop_plan.proofs.places.places_by_rank.Given as goal

abbrev pub invariant-loop-rank : goal.invariant-loop-rank
invariant-loop-rank l =
    (length l.places.items ≡ l.rank)
    × ((r : ℕ) → r < l.rank → slice_index l.places.items r ≡ places_of l.ranks (site_at (bound_of l.bound) l.fn.site) r)
