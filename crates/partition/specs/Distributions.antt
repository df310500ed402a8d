-- A mesh on several ranks.
use Rattle.std.specs.Prelude.{◌≡◌, ℕ, List, map}
use Rattle.mesh_decl.specs.declared.owners.Owners.{Owners}
use Rattle.mesh_decl.specs.declared.owners.Perms.{Perms}
use Rattle.mesh_decl.specs.Mesh.{MeshValue}
use Rattle.local_mesh.specs.Halos.{AreHalos}
use Rattle.local_mesh.specs.HaloValues.{HalosValue, halos_value}
use Rattle.local_mesh.specs.LocalMesh.{AreRankMeshes}
use Rattle.local_mesh.specs.Values.{RankMeshValue, rank_mesh_value}
use Rattle.partition.specs.declared.distribute.types.Distribution.{Distribution}

-- the owners, with their halos and the local mesh of each rank by new numbers
pub record IsDistribution (g : MeshValue) (o : Owners) (p : Perms) (d : Distribution) : Type 0 where
  pub owners : d.owners ≡ o
  pub halos : AreHalos g o d.halos
  pub ranks : AreRankMeshes g o p d.ranks.items

-- a distribution as lists alone
pub record DistributionValue : Type 0 where
  pub rank_count : ℕ
  pub owners : List (List ℕ)
  pub halos : HalosValue
  pub ranks : List RankMeshValue

-- the lists that a distribution holds
unfoldable pub distribution_value : Distribution → DistributionValue
distribution_value d = record {
  rank_count = d.owners.ranks;
  owners = d.owners.sets.items;
  halos = halos_value d.halos;
  ranks = map rank_mesh_value d.ranks.items;
}
