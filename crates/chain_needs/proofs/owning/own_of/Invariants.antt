use Rattle.std.proofs.Common.{◌≡◌, ◌<◌, ℕ, length}
use Rattle.local_mesh.specs.RankSet.{has_at}
use Rattle.bound_program.specs.Values.{bound_of}
use Rattle.chain_model.specs.Slices.{owns_pair}
use Rattle.chain_needs.proofs.owning.own_of.Given as goal

abbrev pub invariant-loop-element : goal.invariant-loop-element
invariant-loop-element l = (length l.sets.items ≡ l.element)
    × ((y r : ℕ) → y < l.element → has_at l.sets.items y r ≡ owns_pair (bound_of l.bound) l.owners r l.dat y)
