use Rattle.std.proofs.Common.{◌≡◌, ◌<◌, ℕ, length}
use Rattle.std.specs.Prelude.{slice_index}
use Rattle.bound_program.specs.Values.{bound_of}
use Rattle.loop_plan.specs.StepCounts.{place_count}
use Rattle.loop_plan.proofs.counting.totals_by_loop.Given as goal

abbrev pub invariant-loop-site : goal.invariant-loop-site
invariant-loop-site l =
    (length l.totals.items ≡ l.site)
    × ((s : ℕ) → s < l.site → slice_index l.totals.items s ≡ place_count (bound_of l.bound) l.ranks s)
