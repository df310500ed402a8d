-- Parts of a memory as lists of values.
use Rattle.std.proofs.Common.{◌≡◌, ◌<◌, ◌≤◌, ◌+◌, ◌*◌, ℕ, zero, suc, ℤ, pos, List, [], ◌∷◌, ◌++◌, map, length, get_or, take, drop, flat_map, refl, sym, ap, ap₂, ◌∙◌, arith, take-add, le_refl, zero-mul}
use Rattle.std.specs.List.{range_with_len}
use Rattle.std.proofs.lemmas.Nat.{row_fits}
use Rattle.std.proofs.lemmas.List.{length-take, length-drop, get_or-take, get_or-drop, take-append-drop, drop-drop, drop_all, map-append, ext_get_or}
use Rattle.std.proofs.lemmas.List.FromFn.{length-map-range_with_len, get_or-map-range_with_len}
use mathlib.Core.List.{map-map}
use Rattle.mesh_decl.specs.Mesh.{dat_count, set_size, dat_set}
use Rattle.schedule_model.specs.Cells.{Data, Variable, Store}
use Rattle.bound_program.specs.Values.{BoundValue, VarValue, no_var}
use Rattle.bound_program.specs.Fits.{var_at}
use Rattle.run_model.specs.Windows.{numbers}
use Rattle.run_model.specs.Hosts.{cells_from, variables_of}
use Rattle.run_model.specs.Arguments.{dat_width, var_width}
use Rattle.run_model.specs.Memory.{dat_start, var_start, memory_length, Holds, MemoryEndsWithVariables, MemoryHasDats}
use Rattle.run_model.proofs.Memory.{has_dat, has_var, vars_follow, dats_follow, after_dats}

-- values that stand in a list from p on are that part of it
part : (f : ℕ → ℤ) (m : List ℤ) (p n : ℕ) → p + n ≤ length m → ((i : ℕ) → i < n → get_or m (p + i) (pos 0) ≡ f i) → map f (numbers n) ≡ take n (drop p m)
part f m p n fits are = ext_get_or (pos 0) (map f (numbers n)) (take n (drop p m))
    (omega (arith, length-map-range_with_len f 0 n, length-take n (drop p m), length-drop p m))
    (λ i lt.
    let l : i < n = omega (arith, length-map-range_with_len f 0 n) in
    get_or-map-range_with_len f 0 n i i (pos 0) l (omega arith) ∙ sym (get_or-take n (drop p m) i (pos 0) l ∙ get_or-drop p m i (pos 0) ∙ are i l))

-- a part, and what stands behind it
behind : (m : List ℤ) (p n q : ℕ) → p + n ≡ q → take n (drop p m) ++ drop q m ≡ drop p m
behind m p n q e = ap (λ l. take n (drop p m) ++ l) (ap (λ k. drop k m) (sym e) ∙ sym (drop-drop n p m)) ∙ take-append-drop n (drop p m)

module _ (b : BoundValue) (m : List ℤ) (s : Store) (holds : Holds b m s) where
  -- ---- variables
  one_variable : (v : ℕ) → v < length b.vars → map (λ i. s (Variable (record { variable = v; component = i }))) (numbers (var_width b v)) ≡ take (var_width b v) (drop (var_start b v) m)
  one_variable v lv = part (λ i. s (Variable (record { variable = v; component = i }))) m (var_start b v) (var_width b v)
      (omega (arith, vars_follow b v (length b.vars) lv, holds.length))
      (λ i lt. holds.values (Variable (record { variable = v; component = i })) (has_var b v i lv lt))

  variables_from : (xs : List VarValue) (v : ℕ) → v + length xs ≡ length b.vars → ((k : ℕ) → k < length xs → get_or xs k no_var ≡ var_at b (v + k))
      → map (variables_of s) (cells_from v xs) ≡ drop (var_start b v) m
  variables_from [] v all are =
      let last : v ≡ length b.vars = omega (arith, all) in
      let start : var_start b v ≡ memory_length b = ap (var_start b) last in
      sym (drop_all (var_start b v) m (omega (arith, start, holds.length)))
  variables_from (x ∷ xs) v all are =
      let own : x ≡ var_at b v = are 0 (omega arith) ∙ ap (var_at b) (omega arith) in
      let lv : v < length b.vars = omega (arith, all) in
      map-append (variables_of s) (map (λ i. record { variable = v; component = i }) (numbers (length x.start))) (cells_from (suc v) xs)
      ∙ ap₂ (λ p q. p ++ q)
      (map-map (variables_of s) (λ i. record { variable = v; component = i }) (numbers (length x.start))
      ∙ ap (λ (y : VarValue). map (λ i. s (Variable (record { variable = v; component = i }))) (numbers (length y.start))) own ∙ one_variable v lv)
      (variables_from xs (suc v) (omega (arith, all)) (λ k lt. are (suc k) (omega arith) ∙ ap (var_at b) (omega arith)))
      ∙ behind m (var_start b v) (var_width b v) (var_start b (suc v)) refl

  -- ---- dats
  one_row : (d x : ℕ) → d < dat_count b.mesh → x < set_size b.mesh (dat_set b.mesh d)
      → map s (map (λ i. Data (record { dat = d; element = x; component = i })) (numbers (dat_width b d))) ≡ take (dat_width b d) (drop (dat_start b d + x * dat_width b d) m)
  one_row d x ld lx =
      map-map s (λ i. Data (record { dat = d; element = x; component = i })) (numbers (dat_width b d))
      ∙ part (λ i. s (Data (record { dat = d; element = x; component = i }))) m (dat_start b d + x * dat_width b d) (dat_width b d)
      (omega (
        arith,
        row_fits x (dat_width b d) (set_size b.mesh (dat_set b.mesh d)) (dat_width b d) lx (le_refl (dat_width b d)),
        dats_follow b d (dat_count b.mesh) ld,
        after_dats b (length b.vars),
        holds.length,
      ))
      (λ i lt. ap (λ k. get_or m k (pos 0)) (omega arith) ∙ holds.values (Data (record { dat = d; element = x; component = i })) (has_dat b d x i ld lx lt))

  rows_from : (d n x : ℕ) → d < dat_count b.mesh → x + n ≤ set_size b.mesh (dat_set b.mesh d)
      → map s (flat_map (λ y. map (λ i. Data (record { dat = d; element = y; component = i })) (numbers (dat_width b d))) (range_with_len x n))
      ≡ take (n * dat_width b d) (drop (dat_start b d + x * dat_width b d) m)
  rows_from d zero x ld fits = ap (λ k. take k (drop (dat_start b d + x * dat_width b d) m)) (sym (zero-mul (dat_width b d)))
  rows_from d (suc n) x ld fits =
      let w : ℕ = dat_width b d in
      let p : ℕ = dat_start b d + x * w in
      let next : dat_start b d + (x + 1) * w ≡ p + w = omega arith in
      let all : w + n * w ≡ suc n * w = omega arith in
      map-append s (map (λ i. Data (record { dat = d; element = x; component = i })) (numbers w))
      (flat_map (λ y. map (λ i. Data (record { dat = d; element = y; component = i })) (numbers w)) (range_with_len (x + 1) n))
      ∙ ap₂ (λ k l. k ++ l) (one_row d x ld (omega arith))
      (rows_from d n (x + 1) ld (omega arith) ∙ ap (λ k. take (n * w) (drop k m)) next ∙ ap (take (n * w)) (sym (drop-drop w p m)))
      ∙ sym (take-add w (n * w) (drop p m)) ∙ ap (λ k. take k (drop p m)) all

pub memory_ends_with_variables : MemoryEndsWithVariables
memory_ends_with_variables b m s holds = variables_from b m s holds b.vars 0 (omega arith) (λ k lt. ap (var_at b) (omega arith))

pub memory_has_dats : MemoryHasDats
memory_has_dats b m s d holds ld =
    let start : dat_start b d + 0 * dat_width b d ≡ dat_start b d = omega arith in
    rows_from b m s holds d (set_size b.mesh (dat_set b.mesh d)) 0 ld (omega arith) ∙ ap (λ k. take (set_size b.mesh (dat_set b.mesh d) * dat_width b d) (drop k m)) start
