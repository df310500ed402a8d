-- The numbers of a square grid of n times n cells. Column i and row j count from 0; the nodes are the corners of the cells.
use Rattle.std.specs.Prelude.{ℕ, ℤ, pos, negsuc, ◌+◌, ◌-◌, ◌*◌, List, [], ◌∷◌, ◌++◌, map, replicate}
use Rattle.std.specs.List.{flat_map, range_with_len}

-- the numbers below n, in order
abbrev pub below : ℕ → List ℕ
below n = range_with_len 0 n

-- for each row j, and in it for each column i, what stands there
abbrev pub in_rows : (columns rows : ℕ) → (ℕ → ℕ → List ℤ) → List ℤ
in_rows columns rows f = flat_map (λ j. flat_map (λ i. f i j) (below columns)) (below rows)

-- node (i, j), i and j from 0 to n
abbrev pub node_at : (n i j : ℕ) → ℤ
node_at n i j = pos (j * (n + 1) + i)

-- cell (i, j), i and j below n
abbrev pub cell_at : (n i j : ℕ) → ℤ
cell_at n i j = pos (j * n + i)

-- for each cell its nodes (i, j), (i+1, j), (i+1, j+1) and (i, j+1)
abbrev pub nodes_of_cells : ℕ → List ℤ
nodes_of_cells n = in_rows n n (λ i j. node_at n i j ∷ node_at n (i + 1) j ∷ node_at n (i + 1) (j + 1) ∷ node_at n i (j + 1) ∷ [])

-- for each edge between neighbours in a row its cells (i, j) and (i+1, j)
abbrev pub cells_beside : ℕ → List ℤ
cells_beside n = in_rows (n - 1) n (λ i j. cell_at n i j ∷ cell_at n (i + 1) j ∷ [])

-- for each edge between neighbours in a column its cells (i, j) and (i, j+1)
abbrev pub cells_above : ℕ → List ℤ
cells_above n = in_rows n (n - 1) (λ i j. cell_at n i j ∷ cell_at n i (j + 1) ∷ [])

-- for each edge its two cells
abbrev pub cells_of_edges : ℕ → List ℤ
cells_of_edges n = cells_beside n ++ cells_above n

-- for each boundary edge its cell: along row 0, along the last row, along column 0, along the last column
abbrev pub cells_of_boundary : ℕ → List ℤ
cells_of_boundary n =
    map (λ i. cell_at n i 0) (below n)
    ++ map (λ i. cell_at n i (n - 1)) (below n)
    ++ map (λ j. cell_at n 0 j) (below n)
    ++ map (λ j. cell_at n (n - 1) j) (below n)

-- for each boundary edge: 1 along row 0, -1 along the last row, 0 along the two columns
abbrev pub walls : ℕ → List ℤ
walls n = replicate n (pos 1) ++ replicate n (negsuc 0) ++ replicate (2 * n) (pos 0)

-- for each node (i, j) the numbers i and j
abbrev pub coordinates : ℕ → List ℤ
coordinates n = in_rows (n + 1) (n + 1) (λ i j. pos i ∷ pos j ∷ [])

-- for each cell (i, j) the number i + j
abbrev pub sums : ℕ → List ℤ
sums n = in_rows n n (λ i j. pos (i + j) ∷ [])

-- for each cell 0
abbrev pub zeros : ℕ → List ℤ
zeros n = replicate (n * n) (pos 0)
