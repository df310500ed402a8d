-- What comes of what is asked for fits the mesh.
use Rattle.std.proofs.Common.{◌≡◌, ◌<◌, ◌≤◌, ℕ, List, Option, Some, None, Ok}
use Rattle.mesh_decl.specs.declared.owners.Owners.{Owners}
use Rattle.mesh_decl.specs.declared.owners.Perms.{Perms}
use Rattle.mesh_decl.specs.Mesh.{MeshValue}
use Rattle.mesh_decl.specs.Owners.{AreOwners, ArePerms}
use Rattle.partition.proofs.Public as text
use Rattle.partition.specs.Parts.{Parts, Block, Bisect, Grow, Text}
use Rattle.partition.specs.Judgements.{NumbersAre, OwnersAre}

pub owners_fit : (g : MeshValue) (ranks : ℕ) (parts : Parts) (o : Owners) → 0 < ranks → ranks ≤ 64 → OwnersAre g ranks parts (Ok o) → (o.ranks ≡ ranks) × AreOwners g o
owners_fit g ranks Block o some few h = (h.count, h.owners)
owners_fit g ranks (Bisect name) o some few h = (h.2.count, h.2.derived.owners)
owners_fit g ranks (Grow name) o some few h = (h.2.count, h.2.derived.owners)
owners_fit g ranks (Text bytes) o some few h = (h.0, text.spelled-owners g ranks bytes o h.1 h.0 some few)

pub numbers_fit : (g : MeshValue) (name : Option (List ℕ)) (p : Perms) → NumbersAre g name (Ok p) → ArePerms g p
numbers_fit g None p h = h.perms
numbers_fit g (Some name) p h = h.2.perms
