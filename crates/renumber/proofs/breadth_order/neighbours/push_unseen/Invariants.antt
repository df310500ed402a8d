use Rattle.std.proofs.Common.{◌≡◌, ◌≢◌, ◌⊎◌, ℕ, true, false, nat_eq, get_or}
use Rattle.std.specs.List.{Contains}
use Rattle.lemmas.specs.Below.{any_below}
use Rattle.mesh_decl.specs.Mesh.{target}
use Rattle.renumber.proofs.breadth_order.neighbours.push_unseen.Given as goal

abbrev pub invariant-loop-place : goal.invariant-loop-place
invariant-loop-place l = record {
  new : (y : ℕ) → Contains l.found.items y → Contains l.fn.found.items y ⊎ ((any_below l.place (λ i. nat_eq (target l.mesh l.map l.element i) y) ≡ true) × (y ≢ l.besides));
  kept : (y : ℕ) → Contains l.fn.found.items y → Contains l.found.items y;
  all : (y : ℕ) → any_below l.place (λ i. nat_eq (target l.mesh l.map l.element i) y) ≡ true → y ≢ l.besides → get_or l.seen y false ≡ false → Contains l.found.items y;
}
