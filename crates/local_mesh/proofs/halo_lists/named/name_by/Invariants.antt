use Rattle.std.proofs.Common.{◌≡◌, ◌||◌, ◌&&◌, ℕ, nat_eq}
use Rattle.lemmas.specs.Below.{any_below}
use Rattle.local_mesh.specs.RankSet.{has_at}
use Rattle.mesh_decl.specs.Mesh.{target, map_dim}
use Rattle.local_mesh.proofs.halo_lists.named.name_by.Given as goal

abbrev pub invariant-loop-element : goal.invariant-loop-element
invariant-loop-element l = (y r : ℕ) → has_at l.sets y r ≡
    (has_at l.initial.sets y r || any_below l.element
    (λ x. has_at l.ranks x r && any_below (map_dim l.mesh l.map) (λ i. nat_eq (target l.mesh l.map x i) y)))
