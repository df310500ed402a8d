use Rattle.std.proofs.Common.{◌≡◌, ◌<◌, ◌&&◌, ℕ, length}
use Rattle.std.specs.Prelude.{not}
use Rattle.local_mesh.specs.RankSet.{has_at}
use Rattle.bound_program.specs.Values.{bound_of}
use Rattle.chain_model.specs.Slices.{owns_pair}
use Rattle.chain_needs.specs.PairSets.{pairs_of}
use Rattle.chain_needs.proofs.chain_slices.lists.others_of.Given as goal

abbrev pub invariant-loop-element : goal.invariant-loop-element
invariant-loop-element l = (length l.sets.items ≡ l.element)
    × ((y r : ℕ) → y < l.element → r < 64 → has_at l.sets.items y r ≡ (pairs_of l.needed r l.dat y && not (owns_pair (bound_of l.bound) l.owners r l.dat y)))
