-- The constants that kernels read are cells of variables that are constants.
use Rattle.std.proofs.Common.{◌≡◌, ◌<◌, ◌≤◌, ◌≢◌, ◌+◌, ◌-◌, ℕ, zero, suc, pos, true, false, List, [], ◌∷◌, length, get_or, sum_by, Option, Some, None, refl, sym, ap, ap₂, ◌∙◌, subst, ⊎_elim, FitsSigned, w32, arith}
use Rattle.std.specs.Prelude.{nat_lt, slice_index_or}
use Rattle.std.proofs.lemmas.Bool.{cases_Bool, cases_lt, cases_eq, and_from, lt-ltb, cond-true, cond-false, false≢true}
use Rattle.std.proofs.lemmas.List.{length-map, get_or-map, get_or_past, ext_get_or}
use Rattle.std.proofs.lemmas.List.FromFn.{length-map-range_with_len, get_or-map-range_with_len}
use Rattle.schedule_model.specs.Cells.{Cell, Variable, VarCell, Store, InRange}
use Rattle.bound_program.specs.Values.{BoundValue, VarValue, no_var}
use Rattle.bound_program.specs.Fits.{constant_cells, ConstantsFit, var_at}
use Rattle.run_model.specs.Kernels.{is_among, constant_or, constant_in, constants, constant_values}
use Rattle.run_model.specs.Arguments.{is_there, is_constant, var_width}
use Rattle.run_model.specs.Constants.{no_constant, IsNumbered, ConstantsAreNumbered}
use Rattle.run_model.proofs.Tiling.{covers_by, covers, IsCovered, all_covered, among_bounds, among_true}
use Rattle.std.proofs.lemmas.Option.{same_Some}

-- the cell is of a variable that has the constant, among those from number v on
pub record Named (xs : List VarValue) (v j : ℕ) (c : VarCell) : Type 0 where
  pub number : ℕ
  pub below : number < length xs
  pub variable : c.variable ≡ v + number
  pub first : ℕ
  pub constant : (get_or xs number no_var).constant ≡ Some first
  pub component : c.component ≡ j - first
  pub from : first ≤ j
  pub before : j < first + length (get_or xs number no_var).start

-- a variable that has a constant has a first one
first_of_all : (c : Option ℕ) (n j : ℕ) → covers_by c n j ≡ true → (first : ℕ) × (c ≡ Some first) × (is_among first n j ≡ true)
first_of_all None n j h = absurd (false≢true h)
first_of_all (Some first) n j h = (first, refl, h)

own_cell : (c : Option ℕ) (n v j : ℕ) (other : VarCell) (first : ℕ) → c ≡ Some first → is_among first n j ≡ true
    → constant_or c n v j other ≡ record { variable = v; component = j - first }
own_cell c n v j other first e h =
    ap (λ o. constant_or o n v j other) e ∙ cond-true (is_among first n j) (record { variable = v; component = j - first }) other h

other_cell : (c : Option ℕ) (n v j : ℕ) (other : VarCell) → covers_by c n j ≡ false → constant_or c n v j other ≡ other
other_cell None n v j other h = refl
other_cell (Some first) n v j other h = cond-false (is_among first n j) (record { variable = v; component = j - first }) other h

-- the first variable has it, or the later ones do
by_first : (x : VarValue) (xs : List VarValue) (v j : ℕ) → covers x j ≡ true → Named (x ∷ xs) v j (constant_in (x ∷ xs) v j)
by_first x xs v j t =
    let f = first_of_all x.constant (length x.start) j t in
    let cell : constant_in (x ∷ xs) v j ≡ record { variable = v; component = j - f.0 } = own_cell x.constant (length x.start) v j (constant_in xs (suc v) j) f.0 f.1 f.2 in
    let bounds = among_bounds f.0 (length x.start) j f.2 in
    let variable : (constant_in (x ∷ xs) v j).variable ≡ v = ap (λ (c : VarCell). c.variable) cell in
    record {
      number = 0;
      below = omega arith;
      variable = omega (arith, variable);
      first = f.0;
      constant = f.1;
      component = ap (λ (c : VarCell). c.component) cell;
      from = bounds.0;
      before = bounds.1;
    }

by_later : (x : VarValue) (xs : List VarValue) (v j : ℕ) (c : VarCell) → Named xs (suc v) j c → Named (x ∷ xs) v j c
by_later x xs v j c m = record {
  number = suc m.number;
  below = omega (arith, m.below);
  variable = omega (arith, m.variable);
  first = m.first;
  constant = m.constant;
  component = m.component;
  from = m.from;
  before = m.before;
}

in_rest : (x : VarValue) (xs : List VarValue) (j k : ℕ) → covers x j ≡ false → k < suc (length xs) → covers (get_or (x ∷ xs) k no_var) j ≡ true → IsCovered xs j
in_rest x xs j zero t lt h = absurd (false≢true (sym t ∙ h))
in_rest x xs j (suc k) t lt h = (k, (let l : k < length xs = omega arith in l), h)

named : (xs : List VarValue) (v j : ℕ) → IsCovered xs j → Named xs v j (constant_in xs v j)
named [] v j w = absurd (omega (arith, w.1))
named (x ∷ xs) v j w = ⊎_elim
    (λ (t : covers x j ≡ true). by_first x xs v j t)
    (λ (t : covers x j ≡ false).
    subst (Named (x ∷ xs) v j) (sym (other_cell x.constant (length x.start) v j (constant_in xs (suc v) j) t))
    (by_later x xs v j (constant_in xs (suc v) j) (named xs (suc v) j (in_rest x xs j w.0 t w.1 w.2))))
    (cases_Bool (covers x j))

covered_by : (c : Option ℕ) (n j first : ℕ) → c ≡ Some first → is_among first n j ≡ true → covers_by c n j ≡ true
covered_by c n j first e h = ap (λ o. covers_by o n j) e ∙ h

module _ (b : BoundValue) where
  -- how many constants there are
  abbrev pub count : ℕ
  count = sum_by constant_cells b.vars

  pub constants_long : length (constants b) ≡ count
  constants_long = length-map-range_with_len (constant_in b.vars 0) 0 count

  pub values_long : (s : Store) → length (constant_values b s) ≡ count
  values_long s = length-map (constants b) (λ v. s (Variable v)) ∙ constants_long

  constant_at : (j : ℕ) → j < count → get_or (constants b) j no_constant ≡ constant_in b.vars 0 j
  constant_at j lt = get_or-map-range_with_len (constant_in b.vars 0) 0 count j j no_constant lt (omega arith)

  value_at : (s : Store) (j : ℕ) → j < count → get_or (constant_values b s) j (pos 0) ≡ s (Variable (constant_in b.vars 0 j))
  value_at s j lt =
      get_or-map (λ v. s (Variable v)) (constants b) j no_constant (pos 0) (omega (arith, constants_long))
      ∙ ap (λ v. s (Variable v)) (constant_at j lt)

  pub values_in_range : (s : Store) → InRange s → (j : ℕ) → FitsSigned w32 (slice_index_or (constant_values b s) j (pos 0))
  values_in_range s h j = ⊎_elim
      (λ (l : j < count). subst (FitsSigned w32) (sym (value_at s j l)) (h (Variable (constant_in b.vars 0 j))))
      (λ (l : count ≤ j). subst (FitsSigned w32) (sym (get_or_past (constant_values b s) j (pos 0) (omega (arith, values_long s)))) (record { sfits = omega arith }))
      (cases_lt j count)

  module _ (fit : ConstantsFit b) where
    -- no two variables have the same constant
    apart : (k v w : ℕ) → v < length b.vars → w < length b.vars → v ≢ w → covers (get_or b.vars v no_var) k ≡ true → covers (get_or b.vars w no_var) k ≡ true → ⊥
    apart k v w lv lw ne p q =
        let x = get_or b.vars v no_var in
        let y = get_or b.vars w no_var in
        let f = first_of_all x.constant (length x.start) k p in
        let g = first_of_all y.constant (length y.start) k q in
        let m = among_bounds f.0 (length x.start) k f.2 in
        let n = among_bounds g.0 (length y.start) k g.2 in
        ⊎_elim (λ l. omega (arith, l, m.0, m.1, n.0, n.1)) (λ l. omega (arith, l, m.0, m.1, n.0, n.1)) (fit.apart v w f.0 g.0 lv lw ne f.1 g.1)

    pub is_named : (j : ℕ) → j < count → Named b.vars 0 j (constant_in b.vars 0 j)
    is_named j lt = named b.vars 0 j (all_covered b.vars count j refl fit.within apart lt)

    pub names_constant : (j : ℕ) → j < count → is_constant b (Variable (constant_in b.vars 0 j)) ≡ true
    names_constant j lt =
        let m = is_named j lt in
        let c : VarCell = constant_in b.vars 0 j in
        let same : c.variable ≡ m.number = omega (arith, m.variable) in
        let there : is_there (var_at b c.variable).constant ≡ true = ap (λ v. is_there (var_at b v).constant) same ∙ ap is_there m.constant in
        let wide : var_width b c.variable ≡ var_width b m.number = ap (var_width b) same in
        let inside : c.component < var_width b c.variable = omega (arith, m.component, m.from, m.before, wide) in
        and_from (is_there (var_at b c.variable).constant) (nat_lt c.component (var_width b c.variable)) there (lt-ltb c.component (var_width b c.variable) inside)

    pub same_values : (s w : Store) → ((c : Cell) → is_constant b c ≡ true → s c ≡ w c) → constant_values b s ≡ constant_values b w
    same_values s w same = ext_get_or (pos 0) (constant_values b s) (constant_values b w) (values_long s ∙ sym (values_long w))
        (λ j lt.
        let l : j < count = omega (arith, values_long s) in
        value_at s j l ∙ same (Variable (constant_in b.vars 0 j)) (names_constant j l) ∙ sym (value_at w j l))

    -- constant j of a variable is that variable's cell
    by_number : (v first i : ℕ) → v < length b.vars → (var_at b v).constant ≡ Some first → i < var_width b v → constant_in b.vars 0 (first + i) ≡ record { variable = v; component = i }
    by_number v first i lv at lt =
        let before : first + i < count = omega (arith, fit.within v first lv at) in
        let m = is_named (first + i) before in
        let own : covers (var_at b v) (first + i) ≡ true = covered_by (var_at b v).constant (length (var_at b v).start) (first + i) first at
        (among_true first (length (var_at b v).start) (first + i) (omega arith) (omega arith)) in
        let its : covers (var_at b m.number) (first + i) ≡ true =
        covered_by (var_at b m.number).constant (length (var_at b m.number).start) (first + i) m.first m.constant
        (among_true m.first (length (var_at b m.number).start) (first + i) m.from m.before) in
        let same : m.number ≡ v = ⊎_elim (λ (e : m.number ≡ v). e) (λ (ne : m.number ≢ v). absurd (apart (first + i) m.number v m.below lv ne its own)) (cases_eq m.number v) in
        let firsts : m.first ≡ first = same_Some m.first first (sym m.constant ∙ ap (λ n. (var_at b n).constant) same ∙ at) in
        let variable : (constant_in b.vars 0 (first + i)).variable ≡ v = omega (arith, m.variable, same) in
        let component : (constant_in b.vars 0 (first + i)).component ≡ i = omega (arith, m.component, firsts) in
        ap₂ (λ x y. record { variable = x; component = y }) variable component

is_numbered : (b : BoundValue) (j : ℕ) (c : VarCell) → Named b.vars 0 j c → IsNumbered b j c
is_numbered b j c m =
    let same : m.number ≡ c.variable = omega (arith, m.variable) in
    let wide : var_width b m.number ≡ var_width b c.variable = ap (var_width b) same in
    record {
      variable = omega (arith, m.below, same);
      component = omega (arith, m.component, m.from, m.before, wide);
      first = m.first;
      constant = ap (λ v. (var_at b v).constant) (sym same) ∙ m.constant;
      number = omega (arith, m.component, m.from);
    }

pub constants_are_numbered : ConstantsAreNumbered
constants_are_numbered b fit = record {
  count = constants_long b;
  cells = λ j lt.
      let l : j < count b = omega (arith, constants_long b) in
      subst (IsNumbered b j)
      (sym (get_or-map-range_with_len (constant_in b.vars 0) 0 (count b) j j no_constant l (omega arith)))
      (is_numbered b j (constant_in b.vars 0 j) (is_named b fit j l));
  constant = λ j d lt.
      let l : j < count b = omega (arith, constants_long b) in
      subst (λ v. is_constant b (Variable v) ≡ true)
      (sym (get_or-map-range_with_len (constant_in b.vars 0) 0 (count b) j j d l (omega arith)))
      (names_constant b fit j l);
  numbers = λ v first i lv at lt.
      let before : first + i < count b = omega (arith, fit.within v first lv at) in
      (omega (arith, constants_long b), constant_at b (first + i) before ∙ by_number b fit v first i lv at lt);
}
