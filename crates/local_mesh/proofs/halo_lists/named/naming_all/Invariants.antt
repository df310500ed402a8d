use Rattle.std.proofs.Common.{◌≡◌, ◌&&◌, ℕ, nat_eq, length}
use Rattle.lemmas.specs.Below.{any_below}
use Rattle.local_mesh.specs.RankSet.{has_at}
use Rattle.mesh_decl.specs.Mesh.{set_size, map_to, map_from}
use Rattle.local_mesh.specs.Halo.{named_by}
use Rattle.local_mesh.specs.Sets.{has_in}
use Rattle.local_mesh.proofs.halo_lists.named.naming_all.Given as goal

abbrev pub invariant-loop-map : goal.invariant-loop-map
invariant-loop-map l = (length l.sets.items ≡ set_size l.mesh l.set)
    × ((y r : ℕ) → has_at l.sets.items y r ≡ any_below l.map
    (λ m. nat_eq (map_to l.mesh m) l.set && named_by l.mesh (has_in l.fn.ranks (map_from l.mesh m)) m y r))
