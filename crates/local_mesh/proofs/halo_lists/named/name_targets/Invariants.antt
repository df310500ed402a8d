use Rattle.std.proofs.Common.{◌≡◌, ◌||◌, ◌&&◌, ℕ, nat_eq}
use Rattle.lemmas.specs.Below.{any_below}
use Rattle.local_mesh.specs.RankSet.{has, has_at}
use Rattle.mesh_decl.specs.Mesh.{target}
use Rattle.local_mesh.proofs.halo_lists.named.name_targets.Given as goal

abbrev pub invariant-loop-place : goal.invariant-loop-place
invariant-loop-place l = (y r : ℕ) → has_at l.sets y r ≡ (has_at l.initial.sets y r || (has l.ranks r && any_below l.place (λ i. nat_eq (target l.mesh l.map l.element i) y)))
