use Rattle.std.proofs.Common.{◌≡◌, ◌<◌, ◌≤◌, ℕ, get_or, length}
use Rattle.colouring.proofs.masks.Masks.clear_first.Given as goal

-- what is left is a target that comes
abbrev pub invariant-loop-target : goal.invariant-loop-target
invariant-loop-target l = record {
  left : (t : ℕ) → ((k : ℕ) → l.target-index ≤ k → k < length l.targets → get_or l.targets k 0 ≡ t → ⊥) → get_or l.self.first.items t 0 ≡ 0;
  count : length l.self.first.items ≡ length l.fn.self.first.items;
}
