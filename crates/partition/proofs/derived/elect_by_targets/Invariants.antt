use Rattle.std.proofs.Common.{◌≡◌, ◌<◌, ℕ, length, get_or}
use Rattle.partition.specs.Elected.{IsElected, target_votes}
use Rattle.partition.proofs.derived.elect_by_targets.Given as goal

abbrev pub invariant-loop-element : goal.invariant-loop-element
invariant-loop-element l = (length l.votes ≡ 64) × ((r : ℕ) → get_or l.votes r 0 ≡ 0) × (length l.elected.items ≡ l.element)
    × ((x : ℕ) → x < l.element → IsElected l.ranks (target_votes l.mesh l.owners l.map x) (get_or l.elected.items x 0))
