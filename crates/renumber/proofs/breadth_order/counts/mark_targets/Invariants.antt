use Rattle.std.proofs.Common.{◌≡◌, ◌≢◌, ◌<◌, ◌+◌, ℕ, nat_eq, length, get_or}
use Rattle.lemmas.specs.Below.{any_below, count_below}
use Rattle.mesh_decl.specs.Mesh.{target}
use Rattle.renumber.proofs.breadth_order.Marking.{Marks}
use Rattle.renumber.proofs.breadth_order.counts.mark_targets.Given as goal

abbrev pub invariant-loop-place : goal.invariant-loop-place
invariant-loop-place l = record {
  count : l.count + count_below (length l.initial.last) (λ y. nat_eq (get_or l.initial.last y 0) l.number) ≡ count_below (length l.initial.last) (λ y. nat_eq (get_or l.last y 0) l.number);
  marks : (y : ℕ) → y < length l.initial.last → Marks l.last l.initial.last (λ y. any_below l.place (λ i. nat_eq (target l.mesh l.map l.element i) y)) l.number y;
  others : (y z : ℕ) → z ≢ l.number → get_or l.last y 0 ≡ z → get_or l.initial.last y 0 ≡ z;
}
