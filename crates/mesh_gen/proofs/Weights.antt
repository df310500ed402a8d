-- What the values of the arrays weigh in all, where one number of the grid weighs at most 8.
use Rattle.std.proofs.Common.{◌≡◌, ℕ, ℤ, pos, negsuc, zero, suc, ◌+◌, ◌-◌, ◌*◌, ◌<◌, ◌≤◌, List, [], ◌∷◌, ◌++◌, map, replicate, refl, sym, ap, ◌∙◌, arith}
use Rattle.std.proofs.lemmas.Nat.{mul-le}
use Rattle.std.proofs.lemmas.List.Concat.{flat_map_single}
use Rattle.std.proofs.lemmas.List.Folds.{sum_by-replicate}
use Rattle.std.proofs.lemmas.List.Sums.{sum_by-append}
use Rattle.std.proofs.Math.Nat.{suc-mul}
use Rattle.std.specs.List.{flat_map, sum_by}
use Rattle.mesh_gen.specs.Grid.{below, in_rows, node_at, cell_at, nodes_of_cells, cells_of_edges, cells_of_boundary, walls, coordinates, sums, zeros}
use Rattle.mesh_gen.proofs.Bounds.{product_fits}
use Rattle.mesh_gen.proofs.Rows.{place_more}

-- a measure by which the values of the arrays are light
pub record IsLight (w : ℤ → ℕ) : Type 0 where
  pub number : (x : ℕ) → x ≤ 160801 → w (pos x) ≤ 8
  pub minus : w (negsuc 0) ≤ 8

-- so many rows or places, none of which weighs more than k
pub below_weigh : (w : ℤ → ℕ) (f : ℕ → List ℤ) (k n : ℕ) → ((i : ℕ) → i < n → sum_by w (f i) ≤ k) → sum_by w (flat_map f (below n)) ≤ n * k
below_weigh w f k zero h = omega arith
below_weigh w f k (suc n) h =
    let front : sum_by w (flat_map f (below n)) ≤ n * k = below_weigh w f k n (λ i l. h i (omega arith)) in
    let last : sum_by w (f n) ≤ k = h n (omega arith) in
    let more : suc n ≡ n + 1 = omega arith in
    let whole : sum_by w (flat_map f (below (suc n))) ≡ sum_by w (flat_map f (below n)) + sum_by w (f n) =
    ap (λ m. sum_by w (flat_map f (below m))) more ∙ ap (sum_by w)
    (sym (place_more f n [] (flat_map f (below n)) (flat_map f (below n) ++ f n) refl refl))
    ∙ sum_by-append w (flat_map f (below n)) (f n)
    in
    let product : suc n * k ≡ n * k + k = suc-mul n k in
    omega arith

-- so many rows of so many places
pub rows_weigh : (w : ℤ → ℕ) (f : ℕ → ℕ → List ℤ) (k c r : ℕ) → ((i j : ℕ) → i < c → j < r → sum_by w (f i j) ≤ k) → sum_by w (in_rows c r f) ≤ r * (c * k)
rows_weigh w f k c r h = below_weigh w (λ j. flat_map (λ i. f i j) (below c)) (c * k) r (λ j lr. below_weigh w (λ i. f i j) k c (λ i lc. h i j lc lr))

-- a side
pub side_weighs : (w : ℤ → ℕ) (f : ℕ → ℤ) (n : ℕ) → ((i : ℕ) → i < n → w (f i) ≤ 8) → sum_by w (map f (below n)) ≤ n * 8
side_weighs w f n h =
    let one : (i : ℕ) → i < n → sum_by w (f i ∷ []) ≤ 8 = λ i l. let here : w (f i) ≤ 8 = h i l in omega arith in
    let same : sum_by w (flat_map (λ i. f i ∷ []) (below n)) ≡ sum_by w (map f (below n)) = ap (sum_by w) (flat_map_single f (below n)) in
    let all : sum_by w (flat_map (λ i. f i ∷ []) (below n)) ≤ n * 8 = below_weigh w (λ i. f i ∷ []) 8 n one in
    omega arith

-- nodes and cells in a grid of at most 200 columns and rows
pub node_light : (w : ℤ → ℕ) → IsLight w → (n i j : ℕ) → n ≤ 200 → i ≤ n → j ≤ n → w (node_at n i j) ≤ 8
node_light w h n i j l li lj = let product : j * (n + 1) ≤ 200 * 201 = mul-le j (n + 1) 200 201 (omega arith) (omega arith) in h.number (j * (n + 1) + i) (omega arith)

pub cell_light : (w : ℤ → ℕ) → IsLight w → (n i j : ℕ) → n ≤ 200 → i ≤ n → j ≤ n → w (cell_at n i j) ≤ 8
cell_light w h n i j l li lj = let product : j * n ≤ 200 * 200 = mul-le j n 200 200 (omega arith) (omega arith) in h.number (j * n + i) (omega arith)

-- the product of two sizes and a weight
product_light : (a b k : ℕ) → a ≤ 201 → b ≤ 201 → k ≤ 32 → a * (b * k) ≤ 1292832
product_light a b k la lb lk = mul-le a (b * k) 201 6432 la (mul-le b k 201 32 lb lk)

pub nodes_light : (w : ℤ → ℕ) → IsLight w → (n : ℕ) → n ≤ 200 → sum_by w (nodes_of_cells n) ≤ 1292832
nodes_light w h n l =
    let place : (i j : ℕ) → i < n → j < n → sum_by w (node_at n i j ∷ node_at n (i + 1) j ∷ node_at n (i + 1) (j + 1) ∷ node_at n i (j + 1) ∷ []) ≤ 32 = λ i j li lj.
    let a : w (node_at n i j) ≤ 8 = node_light w h n i j l (omega arith) (omega arith) in
    let b : w (node_at n (i + 1) j) ≤ 8 = node_light w h n (i + 1) j l (omega arith) (omega arith) in
    let c : w (node_at n (i + 1) (j + 1)) ≤ 8 = node_light w h n (i + 1) (j + 1) l (omega arith) (omega arith) in
    let d : w (node_at n i (j + 1)) ≤ 8 = node_light w h n i (j + 1) l (omega arith) (omega arith) in
    omega arith
    in
    let all : sum_by w (nodes_of_cells n) ≤ n * (n * 32) = rows_weigh w (λ i j. node_at n i j ∷ node_at n (i + 1) j ∷ node_at n (i + 1) (j + 1) ∷ node_at n i (j + 1) ∷ []) 32 n n place in
    let product : n * (n * 32) ≤ 1292832 = product_light n n 32 (omega arith) (omega arith) (omega arith) in
    omega arith

-- the two cells of an edge
pair_light : (w : ℤ → ℕ) → IsLight w → (n i j p q : ℕ) → n ≤ 200 → i ≤ n → j ≤ n → p ≤ n → q ≤ n → sum_by w (cell_at n i j ∷ cell_at n p q ∷ []) ≤ 16
pair_light w h n i j p q l li lj lp lq =
    let a : w (cell_at n i j) ≤ 8 = cell_light w h n i j l li lj in
    let b : w (cell_at n p q) ≤ 8 = cell_light w h n p q l lp lq in
    omega arith

pub edges_light : (w : ℤ → ℕ) → IsLight w → (n : ℕ) → n ≤ 200 → sum_by w (cells_of_edges n) ≤ 2585664
edges_light w h n l =
    let beside : List ℤ = in_rows (n - 1) n (λ i j. cell_at n i j ∷ cell_at n (i + 1) j ∷ []) in
    let above : List ℤ = in_rows n (n - 1) (λ i j. cell_at n i j ∷ cell_at n i (j + 1) ∷ []) in
    let first : sum_by w beside ≤ n * ((n - 1) * 16) =
    rows_weigh w (λ i j. cell_at n i j ∷ cell_at n (i + 1) j ∷ []) 16 (n - 1) n (λ i j li lj. pair_light w h n i j (i + 1) j l (omega arith) (omega arith) (omega arith) (omega arith))
    in
    let up : sum_by w above ≤ (n - 1) * (n * 16) =
    rows_weigh w (λ i j. cell_at n i j ∷ cell_at n i (j + 1) ∷ []) 16 n (n - 1) (λ i j li lj. pair_light w h n i j i (j + 1) l (omega arith) (omega arith) (omega arith) (omega arith))
    in
    let both : sum_by w (beside ++ above) ≡ sum_by w beside + sum_by w above = sum_by-append w beside above in
    let a : n * ((n - 1) * 16) ≤ 1292832 = product_light n (n - 1) 16 (omega arith) (omega arith) (omega arith) in
    let b : (n - 1) * (n * 16) ≤ 1292832 = product_light (n - 1) n 16 (omega arith) (omega arith) (omega arith) in
    omega arith

pub boundary_light : (w : ℤ → ℕ) → IsLight w → (n : ℕ) → n ≤ 200 → sum_by w (cells_of_boundary n) ≤ 6400
boundary_light w h n l =
    let bottom : List ℤ = map (λ i. cell_at n i 0) (below n) in
    let top : List ℤ = map (λ i. cell_at n i (n - 1)) (below n) in
    let left : List ℤ = map (λ j. cell_at n 0 j) (below n) in
    let right : List ℤ = map (λ j. cell_at n (n - 1) j) (below n) in
    let a : sum_by w bottom ≤ n * 8 = side_weighs w (λ i. cell_at n i 0) n (λ i li. cell_light w h n i 0 l (omega arith) (omega arith)) in
    let b : sum_by w top ≤ n * 8 = side_weighs w (λ i. cell_at n i (n - 1)) n (λ i li. cell_light w h n i (n - 1) l (omega arith) (omega arith)) in
    let c : sum_by w left ≤ n * 8 = side_weighs w (λ j. cell_at n 0 j) n (λ j lj. cell_light w h n 0 j l (omega arith) (omega arith)) in
    let d : sum_by w right ≤ n * 8 = side_weighs w (λ j. cell_at n (n - 1) j) n (λ j lj. cell_light w h n (n - 1) j l (omega arith) (omega arith)) in
    let p : sum_by w (bottom ++ top ++ left ++ right) ≡ sum_by w (bottom ++ top ++ left) + sum_by w right = sum_by-append w (bottom ++ top ++ left) right in
    let q : sum_by w (bottom ++ top ++ left) ≡ sum_by w (bottom ++ top) + sum_by w left = sum_by-append w (bottom ++ top) left in
    let r : sum_by w (bottom ++ top) ≡ sum_by w bottom + sum_by w top = sum_by-append w bottom top in
    omega arith

-- equal values
copies_light : (w : ℤ → ℕ) (k : ℕ) (z : ℤ) → w z ≤ 8 → sum_by w (replicate k z) ≤ k * 8
copies_light w k z l =
    let same : sum_by w (replicate k z) ≡ k * w z = sum_by-replicate w k z in
    let product : k * w z ≤ k * 8 = mul-le k (w z) k 8 (omega arith) l in
    omega arith

pub walls_light : (w : ℤ → ℕ) → IsLight w → (n : ℕ) → n ≤ 200 → sum_by w (walls n) ≤ 6400
walls_light w h n l =
    let a : sum_by w (replicate n (pos 1)) ≤ n * 8 = copies_light w n (pos 1) (h.number 1 (omega arith)) in
    let b : sum_by w (replicate n (negsuc 0)) ≤ n * 8 = copies_light w n (negsuc 0) h.minus in
    let c : sum_by w (replicate (2 * n) (pos 0)) ≤ 2 * n * 8 = copies_light w (2 * n) (pos 0) (h.number 0 (omega arith)) in
    let p : sum_by w (walls n) ≡ sum_by w (replicate n (pos 1) ++ replicate n (negsuc 0)) + sum_by w (replicate (2 * n) (pos 0)) =
    sum_by-append w (replicate n (pos 1) ++ replicate n (negsuc 0)) (replicate (2 * n) (pos 0))
    in
    let q : sum_by w (replicate n (pos 1) ++ replicate n (negsuc 0)) ≡ sum_by w (replicate n (pos 1)) + sum_by w (replicate n (negsuc 0)) =
    sum_by-append w (replicate n (pos 1)) (replicate n (negsuc 0)) in
    omega arith

pub coordinates_light : (w : ℤ → ℕ) → IsLight w → (n : ℕ) → n ≤ 200 → sum_by w (coordinates n) ≤ 1292832
coordinates_light w h n l =
    let place : (i j : ℕ) → i < n + 1 → j < n + 1 → sum_by w (pos i ∷ pos j ∷ []) ≤ 16 = λ i j li lj.
    let a : w (pos i) ≤ 8 = h.number i (omega arith) in
    let b : w (pos j) ≤ 8 = h.number j (omega arith) in
    omega arith
    in
    let all : sum_by w (coordinates n) ≤ (n + 1) * ((n + 1) * 16) = rows_weigh w (λ i j. pos i ∷ pos j ∷ []) 16 (n + 1) (n + 1) place in
    let product : (n + 1) * ((n + 1) * 16) ≤ 1292832 = product_light (n + 1) (n + 1) 16 (omega arith) (omega arith) (omega arith) in
    omega arith

pub sums_light : (w : ℤ → ℕ) → IsLight w → (n : ℕ) → n ≤ 200 → sum_by w (sums n) ≤ 1292832
sums_light w h n l =
    let place : (i j : ℕ) → i < n → j < n → sum_by w (pos (i + j) ∷ []) ≤ 8 = λ i j li lj. let a : w (pos (i + j)) ≤ 8 = h.number (i + j) (omega arith) in omega arith in
    let all : sum_by w (sums n) ≤ n * (n * 8) = rows_weigh w (λ i j. pos (i + j) ∷ []) 8 n n place in
    let product : n * (n * 8) ≤ 1292832 = product_light n n 8 (omega arith) (omega arith) (omega arith) in
    omega arith

pub zeros_light : (w : ℤ → ℕ) → IsLight w → (n : ℕ) → n ≤ 200 → sum_by w (zeros n) ≤ 1286408
zeros_light w h n l =
    let all : sum_by w (zeros n) ≤ n * n * 8 = copies_light w (n * n) (pos 0) (h.number 0 (omega arith)) in
    let product : n * n ≤ 160801 = product_fits n n (omega arith) (omega arith) in
    omega arith
