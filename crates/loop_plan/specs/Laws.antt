-- That there is what words ask for.
use Rattle.std.specs.Prelude.{◌≡◌, ℕ, ◌<◌, ◌≤◌, ◌^◌, List, length, Option, Result, Ok, All}
use Rattle.mesh_decl.specs.declared.owners.Owners.{Owners}
use Rattle.mesh_decl.specs.declared.owners.Perms.{Perms}
use Rattle.mesh_decl.specs.declared.decl.MapDecl.{MapDecl}
use Rattle.mesh_decl.specs.Mesh.{MeshValue, IsMesh, map_count, map_targets}
use Rattle.mesh_decl.specs.Owners.{AreOwners, ArePerms}
use Rattle.partition.specs.declared.distribute.types.Distribution.{Distribution}
use Rattle.partition.specs.Parts.{Parts, NumbersRefusal, OwnersRefusal}
use Rattle.partition.specs.Judgements.{NumbersAre, OwnersAre}
use Rattle.partition.specs.Distributions.{IsDistribution}
use Rattle.local_mesh.specs.declared.types.RankMesh.{RankMesh}
use Rattle.bound_program.specs.Values.{BoundValue}
use Rattle.bound_program.specs.Limits.{max_dim}
use Rattle.bound_program.specs.Fits.{Fits}
use Rattle.loop_plan.specs.Distributed.{IsDistributed}
use Rattle.loop_plan.specs.Values.{PlanValue}
use Rattle.loop_plan.specs.Proper.{Proper, HasLeastColours}

-- what is asked for new numbers of a mesh has an outcome
abbrev pub NumbersExist : Type 0
NumbersExist = (g : MeshValue) (name : Option (List ℕ)) → IsMesh g → (r : Result Perms NumbersRefusal) × NumbersAre g name r

-- what is asked for owners of a mesh, among 1 to 64 ranks, has an outcome
abbrev pub OwnersExist : Type 0
OwnersExist =
    (g : MeshValue) (ranks : ℕ) (parts : Parts)
    → IsMesh g
    → 0 < ranks
    → ranks ≤ 64
    → (r : Result Owners OwnersRefusal) × OwnersAre g ranks parts r

-- what comes of it are owners and new numbers of the mesh
pub record OutcomesFit : Type 0 where
  pub owners : (g : MeshValue) (ranks : ℕ) (parts : Parts) (o : Owners)
      → 0 < ranks → ranks ≤ 64
      → OwnersAre g ranks parts (Ok o)
      → (o.ranks ≡ ranks) × AreOwners g o
  pub numbers : (g : MeshValue) (name : Option (List ℕ)) (p : Perms) → NumbersAre g name (Ok p) → ArePerms g p

-- the lists of targets are as short as those of memory
abbrev pub FitsMemory : MeshValue → Type 0
FitsMemory g = (m : ℕ) → m < map_count g → length (map_targets g m) < 2 ^ 63

-- so they are where each map has a dim of at most 64
abbrev pub NarrowMeshesFitMemory : Type 0
NarrowMeshesFitMemory = (g : MeshValue) → IsMesh g → All (λ (d : MapDecl). d.dim ≤ max_dim) g.maps → FitsMemory g

-- owners and new numbers of a mesh have a distribution
abbrev pub DistributionsExist : Type 0
DistributionsExist =
    (g : MeshValue) (o : Owners) (p : Perms)
    → IsMesh g
    → FitsMemory g
    → AreOwners g o
    → ArePerms g p
    → (d : Distribution) × IsDistribution g o p d

-- a program that fits has a plan with blocks of any size, on the local meshes of any owners and new numbers
abbrev pub PlansExist : Type 0
PlansExist =
    (b : BoundValue) (o : Owners) (p : Perms) (meshes : List RankMesh) (size : ℕ)
    → Fits b
    → IsDistributed b.mesh o p meshes
    → 0 < size
    → (l : PlanValue) × (l.block ≡ size) × Proper b meshes l × HasLeastColours b meshes l
