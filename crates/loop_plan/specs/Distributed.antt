-- A mesh on several ranks.
use Rattle.std.specs.Prelude.{List}
use Rattle.mesh_decl.specs.Mesh.{MeshValue}
use Rattle.mesh_decl.specs.declared.owners.Owners.{Owners}
use Rattle.mesh_decl.specs.declared.owners.Perms.{Perms}
use Rattle.mesh_decl.specs.Owners.{AreOwners, ArePerms}
use Rattle.local_mesh.specs.declared.halo_lists.types.Halos.{Halos}
use Rattle.local_mesh.specs.Halos.{AreHalos}
use Rattle.local_mesh.specs.declared.types.RankMesh.{RankMesh}
use Rattle.local_mesh.specs.LocalMesh.{AreRankMeshes}

-- these are the local meshes of a mesh by these owners and new numbers
pub record IsDistributed (g : MeshValue) (o : Owners) (n : Perms) (meshes : List RankMesh) : Type 0 where
  pub are_owners : AreOwners g o
  pub are_perms : ArePerms g n
  pub are_meshes : AreRankMeshes g o n meshes

-- these are the halos and local meshes of a mesh by some owners and new numbers
pub record Distributed (g : MeshValue) (h : Halos) (meshes : List RankMesh) : Type 0 where
  pub owners : Owners
  pub numbers : Perms
  pub are_halos : AreHalos g owners h
  pub distributed : IsDistributed g owners numbers meshes
