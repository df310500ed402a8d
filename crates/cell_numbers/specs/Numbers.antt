-- What the number of an element of a set says.
use Rattle.std.specs.Prelude.{◌≡◌, ℕ, ◌/◌, List, ◌++◌, codes, if◌then◌else◌}
use Rattle.std.specs.Fmt.{decimal}
use Rattle.mesh_decl.specs.declared.owners.Owners.{Owners}
use Rattle.mesh_decl.specs.Mesh.{MeshValue}
use Rattle.mesh_decl.specs.Owners.{owner_of}
use Rattle.local_mesh.specs.Halo.{owns, imports_execute, imports_nonexecute}
use Rattle.local_mesh.specs.declared.types.RankMesh.{RankMesh}
use Rattle.local_mesh.specs.Lists.{originals_of, IsLocal}
use Rattle.loop_plan.specs.Values.{PlanValue, block_colour_in}
use Rattle.cell_numbers.specs.declared.types.Shown.{Shown}
use Rattle.cell_numbers.specs.declared.types.Shown.TheVariants as shown

-- what rank r has of an element: 0 where it owns it, 1 and 2 where it imports it to execute and to read, else 3
abbrev pub part_of : MeshValue → Owners → (set element r : ℕ) → ℕ
part_of g o s x r =
    if owns o s x r then 0 else
    (if imports_execute g o s x r then 1 else (if imports_nonexecute g o s x r then 2 else 3))

-- the colour is that of the block in which the element's local number lies on its owner
abbrev pub IsBlockColour : Owners → List RankMesh → PlanValue → (site set element colour : ℕ) → Type 0
IsBlockColour o meshes p site s x colour =
    (local : ℕ) × IsLocal (originals_of meshes (owner_of o s x) s) x local
    × (colour ≡ block_colour_in p site (owner_of o s x) (local / p.block))

-- the number of an element
abbrev pub HasNumber : MeshValue → Owners → List RankMesh → PlanValue → Shown → (set element number : ℕ) → Type 0
HasNumber g o meshes p shown.Owners s x n = n ≡ owner_of o s x
HasNumber g o meshes p (shown.Halos r) s x n = n ≡ part_of g o s x r
HasNumber g o meshes p (shown.Colours site) s x n = IsBlockColour o meshes p site s x n

-- what is said of what is shown
abbrev pub shown_text : Shown → List ℕ
shown_text shown.Owners = codes " by owner"
shown_text (shown.Halos r) = codes " of rank " ++ decimal r
shown_text (shown.Colours site) = codes " by block colour of loop " ++ decimal site
