-- What an array says at one place, of those that go over the grid or along its sides.
use Rattle.std.specs.Prelude.{ℕ, ℤ, pos, ◌+◌, ◌-◌, List, [], ◌∷◌}
use Rattle.mesh_gen.specs.declared.places.Pattern.{Pattern}
use Rattle.mesh_gen.specs.declared.places.Pattern.TheVariants.{AroundCell, Beside, Above, Coordinates, Sum}
use Rattle.mesh_gen.specs.declared.places.Side.{Side}
use Rattle.mesh_gen.specs.declared.places.Side.TheVariants.{Bottom, Top, Left, Right}
use Rattle.mesh_gen.specs.Grid.{node_at, cell_at}

-- in column i and row j
abbrev pub at : Pattern → (n i j : ℕ) → List ℤ
at AroundCell n i j = node_at n i j ∷ node_at n (i + 1) j ∷ node_at n (i + 1) (j + 1) ∷ node_at n i (j + 1) ∷ []
at Beside n i j = cell_at n i j ∷ cell_at n (i + 1) j ∷ []
at Above n i j = cell_at n i j ∷ cell_at n i (j + 1) ∷ []
at Coordinates n i j = pos i ∷ pos j ∷ []
at Sum n i j = pos (i + j) ∷ []

-- the cell at place k of a side
abbrev pub cell_along : Side → (n k : ℕ) → ℤ
cell_along Bottom n k = cell_at n k 0
cell_along Top n k = cell_at n k (n - 1)
cell_along Left n k = cell_at n 0 k
cell_along Right n k = cell_at n (n - 1) k
