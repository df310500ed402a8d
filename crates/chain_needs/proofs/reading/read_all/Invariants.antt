use Rattle.std.proofs.Common.{◌≡◌, ◌||◌, ◌&&◌, ℕ}
use Rattle.std.specs.List.{list_any}
use Rattle.lemmas.specs.Below.{any_below}
use Rattle.local_mesh.specs.RankSet.{has_at}
use Rattle.bound_program.specs.Values.{bound_of}
use Rattle.bound_program.specs.Fits.{site_at}
use Rattle.chain_model.specs.Slices.{reads_pair}
use Rattle.chain_needs.proofs.reading.read_all.Given as goal

abbrev pub invariant-loop-element : goal.invariant-loop-element
invariant-loop-element l = (y r : ℕ) → has_at l.sets y r
    ≡ (has_at l.initial.sets y r || any_below l.element (λ e. has_at l.executing e r && list_any (reads_pair (bound_of l.bound) l.dat y e) (site_at (bound_of l.bound) l.site).args))
