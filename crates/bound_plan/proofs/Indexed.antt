-- Where the cells of variables stand in the list of all.
use Rattle.std.proofs.Common.{◌≡◌, ◌<◌, ◌≤◌, ◌+◌, ◌-◌, ℕ, zero, suc, List, [], ◌∷◌, length, get_or, map, refl, sym, ap, subst, ◌∙◌, ⊎_elim, arith}
use Rattle.std.proofs.lemmas.List.{get_or_append_left, get_or-append-add, get_or-append_right, length-append}
use Rattle.std.proofs.lemmas.List.FromFn.{length-map-range_with_len, get_or-map-range_with_len}
use Rattle.std.proofs.lemmas.Bool.{cases_lt}
use Rattle.schedule_model.specs.Cells.{VarCell}
use Rattle.bound_program.specs.Values.{BoundValue, VarValue, no_var}
use Rattle.run_model.specs.Windows.{numbers}
use Rattle.run_model.specs.Hosts.{cells_from, variable_cells}
use Rattle.run_model.specs.Constants.{no_constant}
use Rattle.run_model.specs.Arguments.{var_width}
use Rattle.bound_plan.specs.Variables.{cells_before, variable_index, variable_at}

abbrev cell : ℕ → ℕ → VarCell
cell v i = record { variable = v; component = i }

-- how many cells the first k of these variables have
sum_before : List VarValue → ℕ → ℕ
sum_before xs zero = 0
sum_before [] (suc k) = 0
sum_before (x ∷ xs) (suc k) = length x.start + sum_before xs k

next : (xs : List VarValue) (k : ℕ) → sum_before xs (suc k) ≡ sum_before xs k + length (get_or xs k no_var).start
unfolding sum_before
next [] zero = refl
next [] (suc k) = refl
next (x ∷ xs) zero = omega arith
next (x ∷ xs) (suc k) = let e = next xs k in omega arith

before_is : (b : BoundValue) (v : ℕ) → cells_before b v ≡ sum_before b.vars v
unfolding sum_before
before_is b zero = refl
before_is b (suc v) = ap (λ z. z + var_width b v) (before_is b v) ∙ sym (next b.vars v)

own_length : (v : ℕ) (x : VarValue) → length (map (cell v) (numbers (length x.start))) ≡ length x.start
own_length v x = length-map-range_with_len (cell v) 0 (length x.start)

stands : (v : ℕ) (xs : List VarValue) (k i : ℕ) → k < length xs → i < length (get_or xs k no_var).start
    → (sum_before xs k + i < length (cells_from v xs)) × (get_or (cells_from v xs) (sum_before xs k + i) no_constant ≡ cell (v + k) i)
unfolding sum_before
stands v [] k i lk li = absurd (omega arith)
stands v (x ∷ xs) zero i lk li =
    let own = own_length v x in
    let all = length-append (map (cell v) (numbers (length x.start))) (cells_from (suc v) xs) in
    let z : zero + i ≡ i = omega arith in (
      omega arith,
      ap (λ j. get_or (cells_from v (x ∷ xs)) j no_constant) z
          ∙ get_or_append_left (map (cell v) (numbers (length x.start))) (cells_from (suc v) xs) no_constant i (omega arith)
          ∙ get_or-map-range_with_len (cell v) 0 (length x.start) i i no_constant li (omega arith)
          ∙ ap (λ n. cell n i) (omega arith),
    )
stands v (x ∷ xs) (suc k) i lk li =
    let own = own_length v x in
    let all = length-append (map (cell v) (numbers (length x.start))) (cells_from (suc v) xs) in
    let w : (sum_before xs k + i < length (cells_from (suc v) xs)) × (get_or (cells_from (suc v) xs) (sum_before xs k + i) no_constant ≡ cell (suc v + k) i) = stands (suc v) xs k i (omega arith) li in
    let lw : sum_before xs k + i < length (cells_from (suc v) xs) = w.0 in
    let z : length x.start + sum_before xs k + i ≡ length (map (cell v) (numbers (length x.start))) + (sum_before xs k + i) = omega arith in (
      omega arith,
      ap (λ j. get_or (cells_from v (x ∷ xs)) j no_constant) z
          ∙ get_or-append-add (map (cell v) (numbers (length x.start))) (cells_from (suc v) xs) (sum_before xs k + i) no_constant
          ∙ w.1
          ∙ ap (λ n. cell n i) (omega arith),
    )

-- a variable's cell has its index
pub indexed : (b : BoundValue) (v : VarCell) → v.variable < length b.vars → v.component < var_width b v.variable
    → (variable_index b v < length (variable_cells b)) × (variable_at b (variable_index b v) ≡ v)
indexed b v lv li =
    let w = stands 0 b.vars v.variable v.component lv li in
    let e : variable_index b v ≡ sum_before b.vars v.variable + v.component = ap (λ z. z + v.component) (before_is b v.variable) in
    (subst (λ z. z < length (variable_cells b)) (sym e) w.0, ap (variable_at b) e ∙ w.1 ∙ ap (λ n. cell n v.component) (omega arith))

-- which variable has the cell at an index
record Owner (v : ℕ) (xs : List VarValue) (j : ℕ) : Type 0 where
  number : ℕ
  there : number < length xs
  component : ℕ
  below : component < length (get_or xs number no_var).start
  is : get_or (cells_from v xs) j no_constant ≡ cell (v + number) component
  place : sum_before xs number + component ≡ j

owner : (v : ℕ) (xs : List VarValue) (j : ℕ) → j < length (cells_from v xs) → Owner v xs j
unfolding sum_before
owner v [] j l = absurd (omega arith)
owner v (x ∷ xs) j l =
    let own = own_length v x in
    let all = length-append (map (cell v) (numbers (length x.start))) (cells_from (suc v) xs) in
    ⊎_elim
    (λ (h : j < length x.start).
    let w : Owner v (x ∷ xs) j = record {
      number = 0;
      there = omega arith;
      component = j;
      below = h;
      is = get_or_append_left (map (cell v) (numbers (length x.start))) (cells_from (suc v) xs) no_constant j (omega arith)
          ∙ get_or-map-range_with_len (cell v) 0 (length x.start) j j no_constant h (omega arith)
          ∙ ap (λ n. cell n j) (omega arith);
      place = omega arith;
    } in
    w)
    (λ (h : length x.start ≤ j).
    let k : j - length x.start < length (cells_from (suc v) xs) = omega arith in
    let u : Owner (suc v) xs (j - length x.start) = owner (suc v) xs (j - length x.start) k in
    let q : sum_before xs u.number + u.component ≡ j - length x.start = u.place in
    let t : u.number < length xs = u.there in
    let w : Owner v (x ∷ xs) j = record {
      number = suc u.number;
      there = omega arith;
      component = u.component;
      below = u.below;
      is = get_or-append_right (map (cell v) (numbers (length x.start))) (cells_from (suc v) xs) (length x.start) j no_constant own h
          ∙ u.is
          ∙ ap (λ n. cell n u.component) (omega arith);
      place = omega arith;
    } in
    w)
    (cases_lt j (length x.start))

-- what stands at an index is a variable's cell, which has this index
pub is_variable : (b : BoundValue) (j : ℕ) → j < length (variable_cells b)
    → ((variable_at b j).variable < length b.vars) × ((variable_at b j).component < var_width b (variable_at b j).variable) × (variable_index b (variable_at b j) ≡ j)
is_variable b j l =
    let w : Owner 0 b.vars j = owner 0 b.vars j l in
    let e : variable_at b j ≡ cell w.number w.component = w.is ∙ ap (λ n. cell n w.component) (omega arith) in
    subst (λ (c : VarCell). (c.variable < length b.vars) × (c.component < var_width b c.variable) × (variable_index b c ≡ j)) (sym e)
    (w.there, w.below, ap (λ z. z + w.component) (before_is b w.number) ∙ w.place)
