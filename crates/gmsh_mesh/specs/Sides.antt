-- Sides of cells.
use Rattle.std.specs.Prelude.{◌≡◌, ◌<◌, ℕ, ◌+◌, ◌*◌, ◌/◌, ◌%◌, List, [], ◌∷◌, length, slice_index}
use Rattle.gmsh_mesh.specs.declared.cell_sides.shape.Shape.{Shape}
use Rattle.gmsh_mesh.specs.declared.cell_sides.shape.Shape.TheVariants.{Triangle, Quadrangle, Tetrahedron, Hexahedron}

-- how many nodes a cell has
abbrev pub nodes : Shape → ℕ
nodes Triangle = 3
nodes Quadrangle = 4
nodes Tetrahedron = 4
nodes Hexahedron = 8

-- how many sides it has
abbrev pub sides : Shape → ℕ
sides Triangle = 3
sides Quadrangle = 4
sides Tetrahedron = 4
sides Hexahedron = 6

-- how many nodes each of its sides has
abbrev pub side_nodes : Shape → ℕ
side_nodes Triangle = 2
side_nodes Quadrangle = 2
side_nodes Tetrahedron = 3
side_nodes Hexahedron = 4

-- The nodes of the sides, side for side, as they run round it: numbers of the cell's nodes from 0, in the numbering of Gmsh's reference
-- manual. Seen from outside the cell they run counterclockwise, where the cell has positive volume.
abbrev pub corners : Shape → List ℕ
corners Triangle = 0 ∷ 1 ∷ 1 ∷ 2 ∷ 2 ∷ 0 ∷ []
corners Quadrangle = 0 ∷ 1 ∷ 1 ∷ 2 ∷ 2 ∷ 3 ∷ 3 ∷ 0 ∷ []
corners Tetrahedron = 0 ∷ 2 ∷ 1 ∷ 0 ∷ 1 ∷ 3 ∷ 0 ∷ 3 ∷ 2 ∷ 3 ∷ 1 ∷ 2 ∷ []
corners Hexahedron =
    0 ∷ 3 ∷ 2 ∷ 1 ∷ 0 ∷ 1 ∷ 5 ∷ 4 ∷ 0 ∷ 4 ∷ 7 ∷ 3 ∷ 1 ∷ 2 ∷ 6 ∷ 5 ∷ 2 ∷ 3 ∷ 7 ∷ 6 ∷ 4 ∷ 5 ∷ 6 ∷ 7 ∷ []

-- how many nodes all sides of a cell have
abbrev pub corner_count : Shape → ℕ
corner_count shape = sides shape * side_nodes shape

-- where the node at a place of all cells' sides stands among all cells' nodes
abbrev pub source : Shape → ℕ → ℕ
source shape place = place / corner_count shape * nodes shape + slice_index (corners shape) (place % corner_count shape)

-- the nodes of all cells' sides, cell for cell and side for side
pub record AreSides (shape : Shape) (count : ℕ) (cells all : List ℕ) : Type 0 where
  pub size : length all ≡ count * corner_count shape
  pub each : (place : ℕ) → place < length all → slice_index all place ≡ slice_index cells (source shape place)

-- Node k of side j of cell c stands where the sides are listed one behind another: side j of the cell is row c * sides + j.
abbrev pub IsOfSide : Shape → ℕ → ℕ → ℕ → Type 0
IsOfSide shape c j k =
    source shape ((c * sides shape + j) * side_nodes shape + k) ≡ c * nodes shape + slice_index (corners shape) (j * side_nodes shape + k)
