-- The mesh of a text of Gmsh: nodes and cells in the order of the file, and the faces. Its judgements stand in this order: the cells have a
-- shape, and the values are within the limit; the nodes are right, each by itself; the elements are; the faces of the cells; the boundary.
use Rattle.std.specs.Prelude.{◌≡◌, ◌+◌, ◌*◌, ℕ, ℤ, nat_lt, List, [], length, Result, Ok, Err, if◌then◌else◌}
use Rattle.mesh_decl.specs.declared.text.entry.TheConstants.{MESH_VALUES}
use Rattle.gmsh_mesh.specs.declared.cell_sides.shape.Shape.{Shape}
use Rattle.gmsh_mesh.specs.Sides.{nodes, side_nodes, AreSides}
use Rattle.gmsh_text.specs.Rows.{Rows}
use Rattle.gmsh_text.specs.declared.read.GmshText.{GmshText}
use Rattle.gmsh_mesh.specs.declared.choice.Dimension.{Dimension}
use Rattle.gmsh_mesh.specs.declared.choice.Choice.{Choice}
use Rattle.gmsh_mesh.specs.declared.refusal.GmshRefusal.{GmshRefusal}
use Rattle.gmsh_mesh.specs.declared.refusal.GmshRefusal.TheVariants.{Limit}
use Rattle.gmsh_mesh.specs.Stages.{Judgement, given, Both}
use Rattle.gmsh_mesh.specs.Choice.{dim_count, choice, one_type, cell_table, side_table}
use Rattle.gmsh_mesh.specs.Coordinates.{places_behind}
use Rattle.gmsh_mesh.specs.Numbers.{NumbersAre}
use Rattle.gmsh_mesh.specs.Faces.{MatesAre, FaceArrays, AreFacesOf}
use Rattle.gmsh_mesh.specs.Boundary.{SideElements, TagsAre}

-- A mesh, its arrays row for row: how many coordinates a node has, and the shape of the cells; the coordinates of the nodes and the nodes
-- of the cells; the nodes and the two cells of each face between cells; the nodes, the cell and the physical tag of each of the boundary.
pub record Arrays : Type 0 where
  pub dim : ℕ
  pub shape : Shape
  pub x : List ℤ
  pub cell : List ℕ
  pub faces : FaceArrays
  pub btag : List ℤ

-- how many values the coordinates and the cells have, and the nodes of the elements that are like sides
abbrev pub size_before : GmshText → Dimension → Shape → ℕ
size_before t dim shape =
    length t.nodes.tags * dim_count dim + length (cell_table shape t.elements).nodes + length (side_table shape t.elements).nodes

-- so many values are within the limit of a mesh text
abbrev pub within : ℕ → Result (Unit {0}) GmshRefusal
within size = if nat_lt MESH_VALUES size then Err (Limit size) else Ok tt

-- the coordinates of the nodes, whose tags are distinct
abbrev pub NodesAre : GmshText → Dimension → (scale : ℕ) → Judgement (List ℕ × List ℤ)
NodesAre t dim scale = Both (NumbersAre t.nodes.tags [] [] 1) (λ x. x ≡ places_behind dim scale [] t.nodes.points)

-- the nodes of elements of one table by number
abbrev pub RowsAre : GmshText → Rows → (width : ℕ) → Judgement (List ℕ)
RowsAre t rows width = NumbersAre t.nodes.tags rows.nodes rows.lines width

-- the nodes of the cells, which are of one shape, and those of the elements that are like sides
abbrev pub ElementsAre : GmshText → Choice → Judgement (Unit {0} × (List ℕ × List ℕ))
ElementsAre t c =
    Both (λ r. r ≡ one_type c.other)
    (Both (RowsAre t (cell_table c.shape t.elements) (nodes c.shape)) (RowsAre t (side_table c.shape t.elements) (side_nodes c.shape)))

-- the elements that are like sides, with these nodes
abbrev pub elements_of : GmshText → Shape → List ℕ → SideElements
elements_of t shape ns =
    record { nodes = ns; groups = (side_table shape t.elements).groups; lines = (side_table shape t.elements).lines }

-- what is judged of the boundary, and the mesh
abbrev pub TaggedAre : GmshText → Dimension → Shape → List ℤ → (cell elements : List ℕ) → FaceArrays → Judgement Arrays
TaggedAre t dim shape x cell elements f =
    given (TagsAre (side_nodes shape) (length f.bcell) f.bface (elements_of t shape elements)) (λ tags r.
    r ≡ Ok (record { dim = dim_count dim; shape = shape; x = x; cell = cell; faces = f; btag = tags }))

-- what is judged of the faces, and the mesh
abbrev pub FacedAre : GmshText → Dimension → Shape → List ℤ → (cell elements : List ℕ) → Judgement Arrays
FacedAre t dim shape x cell elements r =
    let lines = (cell_table shape t.elements).lines in
    (all : List ℕ) × AreSides shape (length lines) cell all
    × given (MatesAre shape lines all) (λ mates q.
    (f : FaceArrays) × AreFacesOf shape (length lines) all mates f × TaggedAre t dim shape x cell elements f q) r

-- the mesh of a text
abbrev pub MeshIs : GmshText → Dimension → (scale : ℕ) → Judgement Arrays
MeshIs t dim scale =
    given (λ r. r ≡ choice dim t.elements) (λ c.
    given (λ r. r ≡ within (size_before t dim c.shape)) (λ _.
    given (NodesAre t dim scale) (λ n.
    given (ElementsAre t c) (λ e. FacedAre t dim c.shape n.1 e.1.0 e.1.1))))
