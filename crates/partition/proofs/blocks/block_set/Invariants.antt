use Rattle.std.proofs.Common.{◌≡◌, ◌<◌, ℕ, length, get_or}
use Rattle.partition.specs.Block.{InBlock}
use Rattle.partition.proofs.blocks.block_set.Given as goal

abbrev pub invariant-loop-element : goal.invariant-loop-element
invariant-loop-element l = (length l.owners.items ≡ l.element)
    × ((x : ℕ) → x < l.element → InBlock l.size l.ranks (get_or l.owners.items x 0) x)
    × ((x : ℕ) → x < l.element → get_or l.owners.items x 0 < l.ranks)
    × ((x : ℕ) → x < l.element → (i : ℕ) → InBlock l.size l.ranks i x → i ≡ get_or l.owners.items x 0)
