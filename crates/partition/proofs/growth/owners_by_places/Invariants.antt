use Rattle.std.proofs.Common.{◌≡◌, ◌<◌, ℕ, length, get_or}
use Rattle.partition.specs.Block.{InBlock}
use Rattle.partition.proofs.growth.owners_by_places.Given as goal

abbrev pub invariant-loop-place : goal.invariant-loop-place
invariant-loop-place l = record {
  size : length l.owners.items ≡ length l.order;
  below : (x : ℕ) → x < length l.order → get_or l.owners.items x 0 < l.ranks;
  owners : (k i : ℕ) → k < l.place → InBlock (length l.order) l.ranks i k → get_or l.owners.items (get_or l.order k 0) 0 ≡ i;
}
