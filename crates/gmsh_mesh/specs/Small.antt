-- Numbers of nodes and cells that are values of a mesh text.
use Rattle.std.specs.Prelude.{◌≡◌, ◌*◌, ◌<◌, ◌≤◌, ◌^◌, ℕ, List, length}
use Rattle.std.specs.List.{All}
use Rattle.mesh_decl.specs.declared.text.entry.TheConstants.{MESH_VALUES}
use Rattle.gmsh_mesh.specs.declared.cell_sides.shape.Shape.{Shape}
use Rattle.gmsh_mesh.specs.Sides.{nodes, side_nodes}
use Rattle.gmsh_text.specs.declared.read.GmshText.{GmshText}
use Rattle.gmsh_mesh.specs.Choice.{cell_table, side_table}
use Rattle.gmsh_mesh.specs.Faces.{FaceArrays}
use Rattle.gmsh_mesh.specs.Mesh.{Arrays}

-- each number is below 2 ^ 31
abbrev pub AreSmall : List ℕ → Type 0
AreSmall ns = All (λ n. n < 2 ^ 31) ns

-- the same of the arrays of faces
pub record AreSmallFaces (f : FaceArrays) : Type 0 where
  pub face : AreSmall f.face
  pub fcell : AreSmall f.fcell
  pub bface : AreSmall f.bface
  pub bcell : AreSmall f.bcell

-- the same of a mesh
pub record HasSmall (m : Arrays) : Type 0 where
  pub cell : AreSmall m.cell
  pub faces : AreSmallFaces m.faces

-- the nodes of the cells of a text by number, and those of the elements that are like sides: as many as there are, and no more than a mesh
-- text has values
pub record ArePlacesOf (t : GmshText) (shape : Shape) (cell elements : List ℕ) : Type 0 where
  pub cells : length cell ≡ length (cell_table shape t.elements).lines * nodes shape
  pub few_cells : length cell ≤ MESH_VALUES
  pub small : AreSmall cell
  pub sides : length elements ≡ length (side_table shape t.elements).lines * side_nodes shape
  pub few_sides : length elements ≤ MESH_VALUES
