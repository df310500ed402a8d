use Rattle.std.proofs.Common.{◌≡◌, ◌<◌, ◌≤◌, ℕ, get_or}
use Rattle.std.specs.Prelude.{◌↔◌}
use Rattle.std.specs.Int.{bit_at}
use Rattle.colouring.specs.Masks.{Has}
use Rattle.colouring.proofs.masks.Masks.joined_first.Given as goal

abbrev pub invariant-loop-k : goal.invariant-loop-k
invariant-loop-k l = (b : ℕ) → (bit_at l.all b ≡ 1) ↔ ((k : ℕ) × (l.start ≤ k) × (k < l.k) × Has l.self (get_or l.targets k 0) 0 b)
