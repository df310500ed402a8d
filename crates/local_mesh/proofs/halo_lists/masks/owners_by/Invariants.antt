use Rattle.std.proofs.Common.{◌≡◌, ℕ, nat_eq}
use Rattle.lemmas.specs.Below.{any_below}
use Rattle.mesh_decl.specs.Mesh.{map_to, target}
use Rattle.mesh_decl.specs.Owners.{owner_of}
use Rattle.local_mesh.specs.RankSet.{has}
use Rattle.local_mesh.proofs.halo_lists.masks.owners_by.Given as goal

abbrev pub invariant-loop-place : goal.invariant-loop-place
invariant-loop-place l = (r : ℕ) → has l.ranks r ≡ any_below l.place (λ i. nat_eq (owner_of l.owners (map_to l.mesh l.map) (target l.mesh l.map l.element i)) r)
