-- Arrays of faces.
use Rattle.std.specs.Prelude.{◌/◌, ℕ, List, [], ◌∷◌, map, slice_index}
use Rattle.std.specs.List.{flat_map}
use Rattle.gmsh_mesh.specs.Nodes.{row}

-- the rows at these places, one behind another
abbrev pub rows_of : List ℕ → ℕ → List ℕ → List ℕ
rows_of rows width places = flat_map (row rows width) places

-- the cell of a side
abbrev pub cell_of : ℕ → ℕ → ℕ
cell_of sides p = p / sides

-- the cells of the sides at these places
abbrev pub cells_of : ℕ → List ℕ → List ℕ
cells_of sides places = map (cell_of sides) places

-- the cell of a side, and that of its mate
abbrev pub pair_of : List ℕ → ℕ → ℕ → List ℕ
pair_of mates sides p = cell_of sides p ∷ cell_of sides (slice_index mates p) ∷ []

-- the cells of the sides at these places, each with that of its mate
abbrev pub pairs_of : List ℕ → ℕ → List ℕ → List ℕ
pairs_of mates sides places = flat_map (pair_of mates sides) places
