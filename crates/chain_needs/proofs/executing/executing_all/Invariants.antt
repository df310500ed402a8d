use Rattle.std.proofs.Common.{◌≡◌, ◌<◌, ℕ, length}
use Rattle.local_mesh.specs.RankSet.{has_at}
use Rattle.bound_program.specs.Values.{bound_of}
use Rattle.bound_program.specs.Fits.{site_at}
use Rattle.chain_model.specs.Slices.{executes_for}
use Rattle.chain_needs.specs.PairSets.{pairs_of}
use Rattle.chain_needs.proofs.executing.executing_all.Given as goal

abbrev pub invariant-loop-element : goal.invariant-loop-element
invariant-loop-element l = (length l.sets.items ≡ l.element)
    × ((x r : ℕ) → x < l.element → has_at l.sets.items x r ≡ executes_for (bound_of l.bound) l.owners r (pairs_of l.needs r) (site_at (bound_of l.bound) l.site) x)
