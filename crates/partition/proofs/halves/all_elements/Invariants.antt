use Rattle.std.proofs.Common.{◌≡◌, ◌<◌, ℕ, length, get_or}
use Rattle.partition.proofs.halves.all_elements.Given as goal

abbrev pub invariant-loop-element : goal.invariant-loop-element
invariant-loop-element l = (length l.elements.items ≡ l.element) × ((x : ℕ) → x < l.element → get_or l.elements.items x 0 ≡ x)
