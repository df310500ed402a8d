use Rattle.std.proofs.Common.{◌≡◌, ◌<◌, ℕ, true, false, length, get_or}
use Rattle.partition.specs.Block.{InBlock}
use Rattle.partition.specs.Elected.{IsElected, naming_votes, is_named}
use Rattle.partition.proofs.derived.elect_by_names.Given as goal

abbrev pub invariant-loop-element : goal.invariant-loop-element
invariant-loop-element l = (length l.votes ≡ 64) × ((r : ℕ) → get_or l.votes r 0 ≡ 0) × (length l.elected.items ≡ l.element)
    × ((x : ℕ) → x < l.element → is_named l.mesh l.map x ≡ true → IsElected l.ranks (naming_votes l.mesh l.owners l.map x) (get_or l.elected.items x 0))
    × ((x : ℕ) → x < l.element → is_named l.mesh l.map x ≡ false → InBlock l.size l.ranks (get_or l.elected.items x 0) x)
    × ((x : ℕ) → x < l.element → get_or l.elected.items x 0 < l.ranks)
