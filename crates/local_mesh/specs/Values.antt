-- What local meshes hold, as lists alone.
use Rattle.std.specs.Prelude.{◌≡◌, ℕ, Bool, List, map}
use Rattle.mesh_decl.specs.declared.owners.Owners.{Owners}
use Rattle.mesh_decl.specs.declared.owners.Perms.{Perms}
use Rattle.mesh_decl.specs.Mesh.{MeshValue, IsInRange}
use Rattle.mesh_decl.specs.Owners.{ArePerms}
use Rattle.local_mesh.specs.HaloValues.{lists_of}
use Rattle.local_mesh.specs.declared.types.LocalSet.{LocalSet}
use Rattle.local_mesh.specs.declared.types.RankMesh.{RankMesh}
use Rattle.local_mesh.specs.LocalMesh.{AreRankMeshes}

-- a set of a rank: how many elements each group has, the original number of each, and which are core
pub record LocalSetValue : Type 0 where
  pub own : ℕ
  pub exec : ℕ
  pub nonexec : ℕ
  pub original : List ℕ
  pub core : List Bool

-- the lists that a rank's set holds
unfoldable pub local_set_value : LocalSet → LocalSetValue
local_set_value l = record { own = l.own; exec = l.exec; nonexec = l.nonexec; original = l.original; core = l.core.items }

-- the local mesh of a rank: its sets, the local targets by each map, and the first cell of each dat
pub record RankMeshValue : Type 0 where
  pub sets : List LocalSetValue
  pub maps : List (List ℕ)
  pub bases : List ℕ
  pub cells : ℕ

-- the lists that a rank's local mesh holds
unfoldable pub rank_mesh_value : RankMesh → RankMeshValue
rank_mesh_value m = record {
  sets = map local_set_value m.sets.items;
  maps = lists_of m.maps.items;
  bases = m.bases.items;
  cells = m.cells;
}

-- owners and new numbers have one local mesh for each rank
abbrev pub AreOne : Type 0
AreOne =
    (g : MeshValue) (o : Owners) (p : Perms) (a b : List RankMesh)
    → IsInRange g
    → ArePerms g p
    → AreRankMeshes g o p a
    → AreRankMeshes g o p b
    → map rank_mesh_value a ≡ map rank_mesh_value b
