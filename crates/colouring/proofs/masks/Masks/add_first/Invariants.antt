use Rattle.std.proofs.Common.{◌≡◌, ◌<◌, ◌≤◌, ◌+◌, ◌*◌, ℕ, get_or, length}
use Rattle.std.specs.Prelude.{◌↔◌, ◌⊎◌}
use Rattle.colouring.specs.Masks.{Has}
use Rattle.colouring.proofs.masks.Masks.add_first.Given as goal

abbrev pub invariant-loop-k : goal.invariant-loop-k
invariant-loop-k l = record {
  added : (t v b : ℕ) → b < 32 → Has l.self t v b ↔ (Has l.fn.self t v b ⊎ ((32 * v + b ≡ l.colour) × ((k : ℕ) × (l.start ≤ k) × (k < l.k) × (get_or l.targets k 0 ≡ t))));
  passed : l.self.passed ≡ l.fn.self.passed;
  count : length l.self.first.items ≡ length l.fn.self.first.items;
  others : (t : ℕ) → ((k : ℕ) → l.start ≤ k → k < l.k → get_or l.targets k 0 ≡ t → ⊥) → get_or l.self.first.items t 0 ≡ get_or l.fn.self.first.items t 0;
}
