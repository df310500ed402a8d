use Rattle.std.proofs.Common.{◌≡◌, ◌<◌, ◌++◌, [], ℕ, nat_eq, length, replicate, get_or}
use Rattle.lemmas.specs.Below.{count_below}
use Rattle.mesh_decl.specs.Mesh.{target}
use Rattle.renumber.proofs.breadth_order.by_target.add_to_targets.Given as goal

abbrev pub invariant-loop-place : goal.invariant-loop-place
invariant-loop-place l = record {
  count : length l.filling.rows ≡ length l.initial.filling.rows;
  room : l.filling.room ≡ l.initial.filling.room;
  rows : (x : ℕ) → x < length l.initial.filling.rows → get_or l.filling.rows x [] ≡ get_or l.initial.filling.rows x [] ++ replicate
      (count_below l.place (λ i. nat_eq (target l.mesh l.map l.element i) x)) l.element;
}
