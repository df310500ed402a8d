use Rattle.std.proofs.Common.{◌≡◌, ◌≢◌, ◌<◌, ◌&&◌, not, ℕ, nat_eq, length, get_or}
use Rattle.lemmas.specs.Below.{any_below, count_below}
use Rattle.renumber.specs.Neighbours.{has_target}
use Rattle.renumber.proofs.breadth_order.counts.mark_neighbours.Given as goal

abbrev pub invariant-loop-element : goal.invariant-loop-element
invariant-loop-element l = record {
  count : l.count ≡ count_below (length l.initial.last) (λ y. nat_eq (get_or l.last y 0) l.number);
  marks : (y : ℕ) → y < length l.initial.last → nat_eq (get_or l.last y 0) l.number ≡ (any_below l.element-index (λ k. has_target l.mesh l.map (get_or l.having k 0) y) && not (nat_eq l.number y));
  others : (y z : ℕ) → z ≢ l.number → get_or l.last y 0 ≡ z → get_or l.initial.last y 0 ≡ z;
}
