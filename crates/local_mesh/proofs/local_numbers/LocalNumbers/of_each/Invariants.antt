use Rattle.std.proofs.Common.{◌≡◌, ◌<◌, ℕ, length, get_or}
use Rattle.local_mesh.proofs.local_numbers.LocalNumbers.of_each.Given as goal

abbrev pub invariant-loop-element : goal.invariant-loop-element
invariant-loop-element l = (length l.locals.items ≡ l.element-index) × ((k : ℕ) → k < l.element-index → get_or l.locals.items k 0 ≡ get_or l.self (get_or l.elements k 0) 0)
