use Rattle.std.proofs.Common.{◌≡◌, ◌<◌, ◌≤◌, ℕ, get_or}
use Rattle.colouring.proofs.masks.Masks.largest.Given as goal

abbrev pub invariant-loop-k : goal.invariant-loop-k
invariant-loop-k l = record {
  first : (k : ℕ) × (l.start ≤ k) × (k < l.end) × (get_or l.targets k 0 ≡ l.a);
  second : (k : ℕ) × (l.start ≤ k) × (k < l.end) × (get_or l.targets k 0 ≡ l.b);
}
