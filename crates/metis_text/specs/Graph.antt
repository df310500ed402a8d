-- The graph of neighbours by a map, as a text, in the graph format of METIS (G. Karypis, "METIS: A Software Package for Partitioning
-- Unstructured Graphs", the manual, "Graph file").
use Rattle.std.specs.Prelude.{◌≡◌, ℕ, ◌+◌, ◌/◌, ◌<◌, true, List, [], ◌∷◌, ◌++◌, map, length, slice_index_or, Contains, sum_by, codes}
use Rattle.std.specs.List.{flat_map}
use Rattle.std.specs.List.Sorted.{IsStrictlyIncreasing}
use Rattle.std.specs.Fmt.{decimal}
use Rattle.op_num.specs.Lines.{line_of}
use Rattle.mesh_decl.specs.Mesh.{MeshValue, set_size, map_to}
use Rattle.renumber.specs.Neighbours.{are_neighbours}

-- the numbers are those of x's neighbours by a map, each once, in increasing order
pub record AreNeighbours (g : MeshValue) (m x : ℕ) (ys : List ℕ) : Type 0 where
  pub near : (y : ℕ) → Contains ys y → are_neighbours g m x y ≡ true
  pub all : (y : ℕ) → are_neighbours g m x y ≡ true → Contains ys y
  pub rises : IsStrictlyIncreasing ys

-- an element as the format numbers it, from 1 on
abbrev pub vertex : ℕ → List ℕ
vertex y = decimal (y + 1)

-- the line of an element: its neighbours between single spaces, and LF, which stands there too where it has none
abbrev pub graph_line : List ℕ → List ℕ
graph_line [] = codes "\n"
graph_line (y ∷ ys) = line_of (map vertex (y ∷ ys))

-- the text: how many elements and pairs of neighbours there are, and a line for each element
abbrev pub graph_text : List (List ℕ) → List ℕ
graph_text rows =
    decimal (length rows) ++ codes " " ++ decimal (sum_by length rows / 2) ++ codes "\n" ++ flat_map graph_line rows

-- the first rows are those of the first elements
pub record AreRows (g : MeshValue) (m n : ℕ) (rows : List (List ℕ)) : Type 0 where
  pub count : length rows ≡ n
  pub each : (x : ℕ) → x < n → AreNeighbours g m x (slice_index_or rows x [])

-- The text has a line for each element of the set to which a map leads, in order, with exactly its neighbours.
pub record IsGraph (g : MeshValue) (m : ℕ) (text : List ℕ) : Type 0 where
  pub rows : List (List ℕ)
  pub are : AreRows g m (set_size g (map_to g m)) rows
  pub is : text ≡ graph_text rows
