-- The faces of the cells.
use Rattle.std.specs.Prelude.{◌≡◌, ◌*◌, ◌/◌, ℕ, List, length, slice_index, Ok, Err}
use Rattle.gmsh_mesh.specs.declared.cell_sides.shape.Shape.{Shape}
use Rattle.gmsh_mesh.specs.Sides.{sides, side_nodes}
use Rattle.gmsh_mesh.specs.SideMates.{AreSideMates, IsFirstThirdSide}
use Rattle.gmsh_mesh.specs.FaceLists.{AreFaces}
use Rattle.gmsh_mesh.specs.Arrays.{rows_of, cells_of, pairs_of}
use Rattle.gmsh_mesh.specs.declared.refusal.GmshRefusal.TheVariants.{ThirdCell}
use Rattle.gmsh_mesh.specs.Stages.{Judgement}

-- for each side of the cells, whose tags stand on these lines, the other side with its nodes or itself; or the first cell that is a third
-- one at a face
abbrev pub MatesAre : Shape → (lines all : List ℕ) → Judgement (List ℕ)
MatesAre shape lines all (Ok mates) = AreSideMates all (side_nodes shape) (length lines * sides shape) mates
MatesAre shape lines all (Err (ThirdCell line)) =
    (place : ℕ) × IsFirstThirdSide all (side_nodes shape) (length lines * sides shape) place
    × (line ≡ slice_index lines (place / sides shape))
MatesAre shape lines all (Err e) = ⊥

-- the nodes and the cells of faces, row for row: of those between two cells, and of those of the boundary
pub record FaceArrays : Type 0 where
  pub face : List ℕ
  pub fcell : List ℕ
  pub bface : List ℕ
  pub bcell : List ℕ

-- The faces of `count` cells: the sides that two cells have, once, from the first of the two, and those of one cell, the boundary. A face's
-- nodes stand as they run round it in that cell.
pub record AreFacesOf (shape : Shape) (count : ℕ) (all mates : List ℕ) (f : FaceArrays) : Type 0 where
  pub inner : List ℕ
  pub outer : List ℕ
  pub faces : AreFaces mates (count * sides shape) inner outer
  pub face : f.face ≡ rows_of all (side_nodes shape) inner
  pub fcell : f.fcell ≡ pairs_of mates (sides shape) inner
  pub bface : f.bface ≡ rows_of all (side_nodes shape) outer
  pub bcell : f.bcell ≡ cells_of (sides shape) outer
