-- The cells of all variables hold a store.
use Rattle.std.proofs.Common.{◌≡◌, ◌<◌, ◌≤◌, ◌+◌, ◌-◌, ℕ, suc, ℤ, pos, true, List, [], ◌∷◌, ◌++◌, map, length, get_or, refl, sym, ap, ap₂, ◌∙◌, ⊎_elim, arith}
use Rattle.std.specs.Prelude.{nat_lt, ◌&&◌}
use Rattle.std.proofs.lemmas.Bool.{cases_lt, and_parts, ltb-true}
use Rattle.std.proofs.lemmas.List.{length-map, length-append, map-append, get_or_append_left, get_or-append_right}
use mathlib.Core.List.{map-map}
use Rattle.mesh_decl.specs.Mesh.{no_mesh, set_size, dat_set}
use Rattle.std.proofs.lemmas.List.FromFn.{length-map-range_with_len, get_or-map-range_with_len}
use Rattle.schedule_model.specs.Cells.{Cell, Data, Variable, VarCell, Store}
use Rattle.bound_program.specs.Values.{BoundValue, VarValue, no_var}
use Rattle.bound_program.specs.Fits.{var_at}
use Rattle.run_model.specs.Windows.{numbers}
use Rattle.run_model.specs.Hosts.{cells_from, variables_of, variable_cells}
use Rattle.run_model.specs.Arguments.{var_width, dat_width}
use Rattle.run_model.specs.Memory.{var_start, memory_length, has_cell, place_of, IsInOrder, MemoryIsInOrder, MemoryEndsWithVariables}
use Rattle.run_model.specs.Variables.{of_vars, VariablesHold, CellsAreHeld}

pub cells_are_held : MemoryEndsWithVariables → CellsAreHeld
cells_are_held law b cells s holds = sym (law (of_vars b.vars) cells s holds)

-- ---- the values of variables as a list

module _ (b : BoundValue) (order : IsInOrder b) (g : VarCell → ℤ) where
  abbrev block : ℕ → ℕ → List VarCell
  block v n = map (λ i. record { variable = v; component = i }) (numbers n)

  block_length : (v n : ℕ) → length (map g (block v n)) ≡ n
  block_length v n = length-map (block v n) g ∙ length-map-range_with_len (λ i. record { variable = v; component = i }) 0 n

  block_at : (v n i : ℕ) → i < n → get_or (map g (block v n)) i (pos 0) ≡ g (record { variable = v; component = i })
  block_at v n i lt =
      ap (λ l. get_or l i (pos 0)) (map-map g (λ j. record { variable = v; component = j }) (numbers n))
      ∙ get_or-map-range_with_len (λ j. g (record { variable = v; component = j })) 0 n i i (pos 0) lt (omega arith)

  -- the variables from number v on
  abbrev Are : List VarValue → ℕ → Type 0
  Are xs v = (v + length xs ≡ length b.vars) × ((k : ℕ) → k < length xs → get_or xs k no_var ≡ var_at b (v + k))

  first_is : (x : VarValue) (xs : List VarValue) (v : ℕ) → Are (x ∷ xs) v → length x.start ≡ var_width b v
  first_is x xs v are = ap (λ (y : VarValue). length y.start) (are.1 0 (omega arith) ∙ ap (var_at b) (let e : v + 0 ≡ v = omega arith in e))

  rest_are : (x : VarValue) (xs : List VarValue) (v : ℕ) → Are (x ∷ xs) v → Are xs (suc v)
  rest_are x xs v are = (let e = are.0 in omega arith, λ k lt. are.1 (suc k) (omega arith) ∙ ap (var_at b) (let e : v + suc k ≡ suc v + k = omega arith in e))

  parts_are : (x : VarValue) (xs : List VarValue) (v : ℕ) → map g (cells_from v (x ∷ xs)) ≡ map g (block v (length x.start)) ++ map g (cells_from (suc v) xs)
  parts_are x xs v = map-append g (block v (length x.start)) (cells_from (suc v) xs)

  pub cells_length : (xs : List VarValue) (v : ℕ) → Are xs v → length (map g (cells_from v xs)) + var_start b v ≡ memory_length b
  cells_length [] v are = let last : v ≡ length b.vars = (let e = are.0 in omega arith) in let start : var_start b v ≡ memory_length b = ap (var_start b) last in omega (arith, start)
  cells_length (x ∷ xs) v are =
      let w : length x.start ≡ var_width b v = first_is x xs v are in
      let l : length (map g (cells_from v (x ∷ xs))) ≡ length (map g (block v (length x.start))) + length (map g (cells_from (suc v) xs)) =
      ap length (parts_are x xs v) ∙ length-append (map g (block v (length x.start))) (map g (cells_from (suc v) xs)) in
      let n : length (map g (block v (length x.start))) ≡ length x.start = block_length v (length x.start) in
      let r : length (map g (cells_from (suc v) xs)) + var_start b (suc v) ≡ memory_length b = cells_length xs (suc v) (rest_are x xs v are) in
      let s : var_start b (suc v) ≡ var_start b v + var_width b v = refl in
      omega (arith, w, l, n, r, s)

  pub cell_held : (xs : List VarValue) (v : ℕ) → Are xs v → (w i k : ℕ) → v ≤ w → w < length b.vars → i < var_width b w → k + var_start b v ≡ var_start b w + i
      → get_or (map g (cells_from v xs)) k (pos 0) ≡ g (record { variable = w; component = i })
  cell_held [] v are w i k le lt li at = absurd (let e = are.0 in omega arith)
  cell_held (x ∷ xs) v are w i k le lt li at = ap (λ l. get_or l k (pos 0)) (parts_are x xs v) ∙ ⊎_elim
      (λ (later : v < w).
      let follow : var_start b v + var_width b v ≤ var_start b w = order.vars v w later in
      get_or-append_right (map g (block v (length x.start))) (map g (cells_from (suc v) xs)) (length x.start) k (pos 0) (block_length v (length x.start)) (omega (arith, wide, follow, at))
      ∙ cell_held xs (suc v) (rest_are x xs v are) w i (k - length x.start) (omega (arith, later)) lt li
      (let s : var_start b (suc v) ≡ var_start b v + var_width b v = refl in omega (arith, wide, follow, at, s)))
      (λ (own : w ≤ v).
      let same : w ≡ v = omega (arith, own, le) in
      let starts : var_start b w ≡ var_start b v = ap (var_start b) same in
      let widths : var_width b w ≡ var_width b v = ap (var_width b) same in
      let here : k ≡ i = omega (arith, at, starts) in
      let inside : k < length x.start = omega (arith, wide, widths, here, li) in
      get_or_append_left (map g (block v (length x.start))) (map g (cells_from (suc v) xs)) (pos 0) k (omega (arith, block_length v (length x.start), inside))
      ∙ block_at v (length x.start) k inside
      ∙ ap₂ (λ y j. g (record { variable = y; component = j })) (sym same) here)
      (cases_lt v w)
    where
      wide : length x.start ≡ var_width b v
      wide = first_is x xs v are

-- ---- they hold the store

module _ (b : BoundValue) (s : Store) (order : IsInOrder (of_vars b.vars)) where
  all_are : Are (of_vars b.vars) order (variables_of s) b.vars 0
  all_are = (omega arith, λ k lt. ap (var_at (of_vars b.vars)) (let e : k ≡ 0 + k = omega arith in e))

  held : (c : Cell) → has_cell (of_vars b.vars) c ≡ true → get_or (map (variables_of s) (variable_cells b)) (place_of (of_vars b.vars) c) (pos 0) ≡ s c
  held (Data c) h =
      let none : c.dat < 0 = ltb-true c.dat 0 (and_parts (nat_lt c.dat 0) (nat_lt c.element (set_size no_mesh (dat_set no_mesh c.dat)) && nat_lt c.component (dat_width (of_vars b.vars) c.dat)) h).0 in
      absurd (omega arith)
  held (Variable v) h =
      let p = and_parts (nat_lt v.variable (length b.vars)) (nat_lt v.component (var_width (of_vars b.vars) v.variable)) h in
      cell_held (of_vars b.vars) order (variables_of s) b.vars 0 all_are v.variable v.component (var_start (of_vars b.vars) v.variable + v.component) (omega arith)
      (ltb-true v.variable (length b.vars) p.0) (ltb-true v.component (var_width (of_vars b.vars) v.variable) p.1) (omega arith)

pub variables_hold : MemoryIsInOrder → VariablesHold
variables_hold law b s = record {
  length = (let l : length (map (variables_of s) (variable_cells b)) + var_start (of_vars b.vars) 0 ≡ memory_length (of_vars b.vars) =
      cells_length (of_vars b.vars) (law (of_vars b.vars)) (variables_of s) b.vars 0 (all_are b s (law (of_vars b.vars))) in
      omega (arith, l));
  values = held b s (law (of_vars b.vars));
}
