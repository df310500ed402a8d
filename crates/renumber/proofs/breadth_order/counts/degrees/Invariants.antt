use Rattle.std.proofs.Common.{◌≡◌, ◌≢◌, ◌<◌, ◌≤◌, ℕ, length, get_or}
use Rattle.renumber.specs.Degrees.{degree}
use Rattle.renumber.proofs.breadth_order.counts.degrees.Given as goal

abbrev pub invariant-loop-number : goal.invariant-loop-number
invariant-loop-number l = record {
  count : length l.found.items ≡ l.number;
  degrees : (x : ℕ) → x < l.number → get_or l.found.items x 0 ≡ degree l.mesh l.map x;
  size : length l.last.items ≡ l.size;
  free : (y z : ℕ) → y < l.size → l.number ≤ z → z < l.size → get_or l.last.items y 0 ≢ z;
}
