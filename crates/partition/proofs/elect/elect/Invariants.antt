use Rattle.std.proofs.Common.{◌≡◌, ◌<◌, ◌≤◌, ℕ, length, get_or}
use Rattle.partition.proofs.elect.elect.Given as goal

abbrev pub invariant-loop-rank : goal.invariant-loop-rank
invariant-loop-rank l = record {
  stands : (k : ℕ) × (k < length l.list) × (get_or l.list k 0 ≡ l.best);
  most : (k : ℕ) → k < l.rank-index → get_or l.votes (get_or l.list k 0) 0 ≤ get_or l.votes l.best 0;
  lowest : (k : ℕ) → k < l.rank-index → get_or l.votes (get_or l.list k 0) 0 ≡ get_or l.votes l.best 0 → l.best ≤ get_or l.list k 0;
}
