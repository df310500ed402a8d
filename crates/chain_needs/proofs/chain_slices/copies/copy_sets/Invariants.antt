use Rattle.std.proofs.Common.{◌≡◌, ◌<◌, ℕ, length}
use Rattle.local_mesh.specs.Sets.{sets_in}
use Rattle.chain_needs.proofs.chain_slices.copies.copy_sets.Given as goal

abbrev pub invariant-loop-list : goal.invariant-loop-list
invariant-loop-list l = (length l.copies.items ≡ l.list-index) × ((d : ℕ) → d < l.list-index → sets_in l.copies.items d ≡ sets_in l.sets d)
