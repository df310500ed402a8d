-- The shapes of cells, by the dat of their nodes' coordinates and the map that leads to their nodes.
use Rattle.std.specs.Prelude.{◌≡◌, ℕ, nat_eq, List, Option, Some, None, if◌then◌else◌}
use Rattle.mesh_decl.specs.Mesh.{MeshValue, map_to, map_dim, dat_set, dat_dim}
use Rattle.mesh_decl.specs.Named.{NamesMap, NamesDat}
use Rattle.mesh_draw.specs.declared.shapes.shape.CellKind.{CellKind}
use Rattle.mesh_draw.specs.declared.shapes.shape.CellKind.TheVariants.{Triangle, Quad, Tetrahedron, Hexahedron}
use Rattle.mesh_draw.specs.declared.shapes.shape.Shape.{Shape}
use Rattle.mesh_draw.specs.declared.shapes.shape.ShapeRefusal.{ShapeRefusal}
use Rattle.mesh_draw.specs.declared.shapes.shape.ShapeRefusal.TheVariants.{NoDat, NoMap, OtherSets, Dims}

-- what cells of the plane with so many nodes are
abbrev pub plane_kind : ℕ → Option CellKind
plane_kind nodes = if nat_eq nodes 3 then Some Triangle else (if nat_eq nodes 4 then Some Quad else None)

-- what cells of space with so many nodes are
abbrev pub space_kind : ℕ → Option CellKind
space_kind nodes =
    if nat_eq nodes 3 then Some Triangle else
    (if nat_eq nodes 4 then Some Tetrahedron else (if nat_eq nodes 8 then Some Hexahedron else None))

-- what cells with so many nodes are, each node having so many coordinates
abbrev pub kind_of : (coords nodes : ℕ) → Option CellKind
kind_of coords nodes =
    if nat_eq coords 2 then plane_kind nodes else (if nat_eq coords 3 then space_kind nodes else None)

-- The dat has the first name and the map the second; the map leads to the dat's set, and cells of their dims are of this kind.
pub record IsShape (g : MeshValue) (coords cells : List ℕ) (s : Shape) : Type 0 where
  pub dat : NamesDat g coords (Some s.coords)
  pub map : NamesMap g cells (Some s.cells)
  pub leads : map_to g s.cells ≡ dat_set g s.coords
  pub kind : kind_of (dat_dim g s.coords) (map_dim g s.cells) ≡ Some s.kind

-- a dat has the first name and a map the second
pub record AreNamed (g : MeshValue) (coords cells : List ℕ) (d m : ℕ) : Type 0 where
  pub dat : NamesDat g coords (Some d)
  pub map : NamesMap g cells (Some m)

-- why there is no shape: the first of the causes that is so
abbrev pub IsUnshaped : MeshValue → (coords cells : List ℕ) → ShapeRefusal → Type 0
IsUnshaped g coords cells NoDat = NamesDat g coords None
IsUnshaped g coords cells NoMap = (d : ℕ) × NamesDat g coords (Some d) × NamesMap g cells None
IsUnshaped g coords cells OtherSets = (d : ℕ) × (m : ℕ) × AreNamed g coords cells d m × ¬ (map_to g m ≡ dat_set g d)
IsUnshaped g coords cells Dims =
    (d : ℕ) × (m : ℕ) × AreNamed g coords cells d m × (map_to g m ≡ dat_set g d) × (kind_of (dat_dim g d) (map_dim g m) ≡ None)
