-- The values of a dat, and those of all variables, in arrays that hold a store.
use Rattle.std.proofs.Common.{◌≡◌, ◌<◌, ◌≤◌, ◌+◌, ◌*◌, ℕ, zero, suc, ℤ, pos, List, [], ◌∷◌, ◌++◌, map, length, get_or, take, drop, flat_map, refl, sym, ap, ap₂, ◌∙◌, arith}
use Rattle.std.specs.List.{range_with_len}
use Rattle.std.proofs.lemmas.List.{length-take, length-drop, get_or-take, get_or-drop, take-append-drop, map-append, ext_get_or}
use Rattle.std.proofs.lemmas.List.FromFn.{length-map-range_with_len, get_or-map-range_with_len}
use mathlib.Core.List.{map-map}
use Rattle.mesh_decl.specs.Mesh.{dat_count, dat_dim, set_size, dat_set}
use Rattle.schedule_model.specs.Cells.{Data, Variable, Store}
use Rattle.bound_program.specs.Values.{BoundValue, VarValue, no_var}
use Rattle.run_model.specs.Windows.{numbers}
use Rattle.run_model.specs.Hosts.{cells_from, dat_cells}
use Rattle.run_model.specs.Hosts as hosts
use Rattle.run_model.specs.Arrays.{Arrays}
use Rattle.run_model.specs.Statements.{variable_cells}
use Rattle.run_model.specs.Holds.{Holds}
use Rattle.lemmas.proofs.Lists.{empty_from_length}

-- a list of n values, each by its number
listed : (f : ℕ → ℤ) (l : List ℤ) (n : ℕ) → length l ≡ n → ((i : ℕ) → i < n → get_or l i (pos 0) ≡ f i) → l ≡ map f (numbers n)
listed f l n long are = ext_get_or (pos 0) l (map f (numbers n))
    (omega (arith, long, length-map-range_with_len f 0 n))
    (λ i lt.
    let li : i < n = omega (arith, lt, long) in
    are i li ∙ sym (get_or-map-range_with_len f 0 n i i (pos 0) li (omega arith)))

module _ (s : Store) where
  -- ---- dats

  -- rows of w values, for n elements of dat d from x on
  rows : (d w n x : ℕ) (l : List ℤ) → length l ≡ n * w
      → ((y i : ℕ) → y < n → i < w → get_or l (y * w + i) (pos 0) ≡ s (Data (record { dat = d; element = x + y; component = i })))
      → l ≡ map s (flat_map (λ y. map (λ i. Data (record { dat = d; element = y; component = i })) (numbers w)) (range_with_len x n))
  rows d w zero x l long are = empty_from_length l (omega (arith, long))
  rows d w (suc n) x l long are =
      let enough : w ≤ length l = omega (arith, long) in
      let first : take w l ≡ map (λ i. s (Data (record { dat = d; element = x; component = i }))) (numbers w) =
      listed (λ i. s (Data (record { dat = d; element = x; component = i }))) (take w l) w (omega (arith, length-take w l, enough))
      (λ i lt. get_or-take w l i (pos 0) lt ∙ ap (λ k. get_or l k (pos 0)) (omega arith) ∙ are 0 i (omega arith) lt
      ∙ ap (λ k. s (Data (record { dat = d; element = k; component = i }))) (omega arith)) in
      let later = rows d w n (x + 1) (drop w l) (omega (arith, length-drop w l, long))
      (λ y i ly li. get_or-drop w l (y * w + i) (pos 0) ∙ ap (λ k. get_or l k (pos 0)) (omega arith) ∙ are (suc y) i (omega (arith, ly)) li
      ∙ ap (λ k. s (Data (record { dat = d; element = k; component = i }))) (omega arith)) in
      sym (take-append-drop w l)
      ∙ ap₂ (λ p q. p ++ q) (first ∙ sym (map-map s (λ i. Data (record { dat = d; element = x; component = i })) (numbers w))) later
      ∙ sym (map-append s (map (λ i. Data (record { dat = d; element = x; component = i })) (numbers w))
      (flat_map (λ y. map (λ i. Data (record { dat = d; element = y; component = i })) (numbers w)) (range_with_len (x + 1) n)))

  -- ---- variables

  variables_from : (ls : Arrays) (xs : List VarValue) (v : ℕ) → length ls ≡ length xs
      → ((j : ℕ) → j < length xs → length (get_or ls j []) ≡ length (get_or xs j no_var).start)
      → ((j i : ℕ) → j < length xs → i < length (get_or xs j no_var).start → get_or (get_or ls j []) i (pos 0) ≡ s (Variable (record { variable = v + j; component = i })))
      → flat_map (λ cells. cells) ls ≡ map (hosts.variables_of s) (cells_from v xs)
  variables_from [] [] v count longs are = refl
  variables_from [] (x ∷ xs) v count longs are = absurd (omega (arith, count))
  variables_from (l ∷ ls) [] v count longs are = absurd (omega (arith, count))
  variables_from (l ∷ ls) (x ∷ xs) v count longs are =
      let first : l ≡ map (λ i. s (Variable (record { variable = v; component = i }))) (numbers (length x.start)) =
      listed (λ i. s (Variable (record { variable = v; component = i }))) l (length x.start) (longs 0 (omega arith))
      (λ i lt. are 0 i (omega arith) lt ∙ ap (λ k. s (Variable (record { variable = k; component = i }))) (omega arith)) in
      let later = variables_from ls xs (suc v) (omega (arith, count)) (λ j lt. longs (suc j) (omega (arith, lt)))
      (λ j i lj li. are (suc j) i (omega (arith, lj)) li ∙ ap (λ k. s (Variable (record { variable = k; component = i }))) (omega arith)) in
      ap₂ (λ p q. p ++ q) (first ∙ sym (map-map (hosts.variables_of s) (λ i. record { variable = v; component = i }) (numbers (length x.start)))) later
      ∙ sym (map-append (hosts.variables_of s) (map (λ i. record { variable = v; component = i }) (numbers (length x.start))) (cells_from (suc v) xs))

module _ (b : BoundValue) (l : Arrays) (s : Store) (h : Holds b l s) where
  pub dat_same : (d : ℕ) → d < dat_count b.mesh → get_or l d [] ≡ map s (dat_cells b d)
  dat_same d lt =
      rows s d (dat_dim b.mesh d) (set_size b.mesh (dat_set b.mesh d)) 0 (get_or l d []) (h.dats d lt)
      (λ y i ly li. h.values (Data (record { dat = d; element = y; component = i })) (lt, ly, li) ∙ ap (λ k. s (Data (record { dat = d; element = k; component = i }))) (omega arith))

  pub variables_same : variable_cells b l ≡ map (hosts.variables_of s) (hosts.variable_cells b)
  variables_same =
      variables_from s (drop (dat_count b.mesh) l) b.vars 0 (omega (arith, length-drop (dat_count b.mesh) l, h.count))
      (λ j lt. ap length (get_or-drop (dat_count b.mesh) l j []) ∙ h.vars j lt)
      (λ j i lj li. ap (λ k. get_or k i (pos 0)) (get_or-drop (dat_count b.mesh) l j [])
      ∙ h.values (Variable (record { variable = j; component = i })) (lj, li) ∙ ap (λ k. s (Variable (record { variable = k; component = i }))) (omega arith))
