-- Halos and local meshes for any owners and new numbers.
use Rattle.std.proofs.Common.{◌≡◌, ◌<◌, ℕ, true, List, refl, sym, subst, arith}
use Rattle.mesh_decl.specs.declared.owners.Owners.{Owners}
use Rattle.mesh_decl.specs.declared.owners.Perms.{Perms}
use Rattle.mesh_decl.specs.Mesh.{MeshValue, IsMesh, IsMapAt, map_count, set_size, map_from, map_to, map_dim, target}
use Rattle.mesh_decl.specs.Owners.{AreOwners, ArePerms}
use Rattle.mesh_decl.proofs.Public.{sizes_fit}
use Rattle.local_mesh.specs.Halo.{executes, has_copy}
use Rattle.local_mesh.specs.declared.types.RankMesh.{RankMesh}
use Rattle.local_mesh.specs.LocalMesh.{IsRankMesh, AreRankMeshes}
use Rattle.partition.specs.declared.distribute.types.Distribution.{Distribution}
use Rattle.partition.specs.Distributions.{IsDistribution}
use Rattle.loop_plan.specs.Laws.{FitsMemory}
use Rattle.loop_plan.proofs.plan_exists.Built.{table, length_table, table_at, vec_of, items_are}
use Rattle.loop_plan.proofs.plan_exists.SetHalos.{halos_of, are_halos}
use Rattle.loop_plan.proofs.plan_exists.RankMeshes.{rank_mesh, rank_mesh_is}

module _
    (maps : (g : MeshValue) → IsMesh g → (m : ℕ) → m < map_count g → IsMapAt g m)
    (copied : (g : MeshValue) (o : Owners) (m x i r : ℕ) → m < map_count g → x < set_size g (map_from g m)
    → executes g o (map_from g m) x r ≡ true → i < map_dim g m → has_copy g o (map_to g m) (target g m x i) r ≡ true)
    (g : MeshValue) (o : Owners) (p : Perms) (mesh : IsMesh g) (short : FitsMemory g) (own : AreOwners g o) (perms : ArePerms g p)
  where
    all_meshes : List RankMesh
    all_meshes = table o.ranks (rank_mesh g o p)

    are_all : AreRankMeshes g o p all_meshes
    unfolding all_meshes
    are_all = record {
      count = length_table o.ranks (rank_mesh g o p);
      ranks = λ r d l. subst (IsRankMesh g o p r) (sym (table_at o.ranks (rank_mesh g o p) r d l))
          (rank_mesh_is g o p r (sizes_fit g mesh) mesh.few_sets mesh.few_maps mesh.few_dats (maps g mesh) short perms (λ m x i. copied g o m x i r));
    }

    meshes_items : (vec_of all_meshes).items ≡ all_meshes
    meshes_items = items_are all_meshes (let e = are_all.count in let f = own.few_ranks in omega arith)

    pub distributed : (d : Distribution) × IsDistribution g o p d
    distributed = (
      record { owners = o; halos = halos_of g o; ranks = vec_of all_meshes },
      record {
        owners = refl;
        halos = are_halos g o (sizes_fit g mesh) own.few_ranks (let f = mesh.few_sets in omega arith);
        ranks = subst (AreRankMeshes g o p) (sym meshes_items) are_all;
      },
    )
