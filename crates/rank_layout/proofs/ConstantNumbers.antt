-- The table of the constants' cells, one variable after another.
use Rattle.std.proofs.Common.{◌≡◌, ◌<◌, ◌≤◌, ◌+◌, ◌-◌, ◌⊎◌, inl, inr, ℕ, List, length, get_or, map, Option, Some, None, sym, ap, ◌∙◌, ⊎_elim, arith}
use Rattle.std.specs.Prelude.{IfSome}
use Rattle.std.proofs.lemmas.Bool.{cases_lt}
use Rattle.std.proofs.lemmas.List.{length-map, get_or-map, ext_get_or}
use Rattle.schedule_model.specs.Cells.{VarCell}
use Rattle.bound_program.specs.Values.{BoundValue}
use Rattle.bound_program.specs.Fits.{ConstantsFit, var_at}
use Rattle.run_model.specs.Kernels.{constants}
use Rattle.run_model.specs.Arguments.{var_width}
use Rattle.run_model.specs.Constants.{no_constant, AreNumbered}
use Rattle.bound_plan.specs.Variables.{cells_before, variable_index}
use Rattle.rank_layout.specs.Constants.{NumberedFrom}

module _ (b : BoundValue) where
  -- constant j
  abbrev pub cell_of : ℕ → VarCell
  cell_of j = get_or (constants b) j no_constant

  -- those of the first v variables have their numbers
  pub record SoFar (table : List ℕ) (v : ℕ) : Type 0 where
    pub count : length table ≡ length (constants b)
    pub each : (j : ℕ) → j < length (constants b) → (cell_of j).variable < v → get_or table j 0 ≡ variable_index b (cell_of j)

  pub none_so_far : (table : List ℕ) → length table ≡ length (constants b) → SoFar table 0
  none_so_far table long = record { count = long; each = λ j lj lv. absurd (omega arith) }

  module _ (numbered : AreNumbered b) where
    -- a variable's constants have places
    pub has_room : ConstantsFit b → (v : ℕ) (c : Option ℕ) (wide all : ℕ) → v < length b.vars → (var_at b v).constant ≡ c → wide ≡ var_width b v → all ≡ length (constants b)
        → IfSome c (λ first. first + wide ≤ all)
    has_room fit v None wide all lv is many long = tt {0}
    has_room fit v (Some first) wide all lv is many long = omega (arith, fit.within v first lv is, numbered.count, many, long)

    -- ---- one variable more

    module _ (v : ℕ) (lv : v < length b.vars) (start wide : ℕ) (begins : start ≡ cells_before b v) (many : wide ≡ var_width b v) (old new : List ℕ)
        (same : length new ≡ length old) (had : SoFar old v) where
      -- where constant j stands, if it is the variable's
      own_place : (j : ℕ) → j < length (constants b) → (cell_of j).variable ≡ v → (c : Option ℕ) → (var_at b v).constant ≡ c
          → (first : ℕ) × (c ≡ Some first) × (first + (cell_of j).component ≡ j) × ((cell_of j).component < wide)
      own_place j lj e c is =
          let n = numbered.cells j lj in
          let width : var_width b (cell_of j).variable ≡ var_width b v = ap (var_width b) e in
          (n.first, sym is ∙ ap (λ k. (var_at b k).constant) (sym e) ∙ n.constant, n.number, omega (arith, n.component, width, many))

      -- the place of another variable's constant is not among the variable's
      other_place : (j first : ℕ) → j < length (constants b) → (var_at b v).constant ≡ Some first → (cell_of j).variable < v → (j < first) ⊎ (first + wide ≤ j)
      other_place j first lj is before = ⊎_elim inl
          (λ (l : first ≤ j). ⊎_elim
          (λ (k : j < first + wide).
          let lt : j - first < var_width b v = omega (arith, k, l, many) in
          let at : first + (j - first) ≡ j = omega (arith, l) in
          let number : (cell_of j).variable ≡ v =
          ap (λ z. (cell_of z).variable) (sym at) ∙ ap (λ (x : VarCell). x.variable) (numbered.numbers v first (j - first) lv is lt).1 in
          absurd (omega (arith, before, number)))
          inr
          (cases_lt j (first + wide)))
          (cases_lt j first)

      own_value : (j : ℕ) → j < length (constants b) → (cell_of j).variable ≡ v → start + (cell_of j).component ≡ variable_index b (cell_of j)
      own_value j lj e = let at : cells_before b v ≡ cells_before b (cell_of j).variable = ap (cells_before b) (sym e) in omega (arith, begins, at)

      by_constant : (c : Option ℕ) → (var_at b v).constant ≡ c → NumberedFrom c wide start old new → (j : ℕ) → j < length (constants b) → (cell_of j).variable < v + 1
          → get_or new j 0 ≡ variable_index b (cell_of j)
      by_constant None is put j lj le = ⊎_elim
          (λ (l : (cell_of j).variable < v). ap (λ z. get_or z j 0) put ∙ had.each j lj l)
          (λ (l : v ≤ (cell_of j).variable). let w = own_place j lj (omega (arith, l, le)) None is in let z : ⊥ = none_some w.0 w.1 in absurd z)
          (cases_lt (cell_of j).variable v)
        where
          none_some : (n : ℕ) → None ≡ Some n → ⊥
          none_some n e = cc
      by_constant (Some first) is put j lj le = ⊎_elim
          (λ (l : (cell_of j).variable < v). put.1 j (other_place j first lj is l) ∙ had.each j lj l)
          (λ (l : v ≤ (cell_of j).variable).
          let e : (cell_of j).variable ≡ v = omega (arith, l, le) in
          let w = own_place j lj e (Some first) is in
          let one : first ≡ w.0 = some_same first w.0 w.1 in
          let at : first + (cell_of j).component ≡ j = ap (λ z. z + (cell_of j).component) one ∙ w.2 in
          ap (λ z. get_or new z 0) (sym at) ∙ put.0 (cell_of j).component w.3 ∙ own_value j lj e)
          (cases_lt (cell_of j).variable v)
        where
          some_same : (n m : ℕ) → Some n ≡ Some m → n ≡ m
          some_same n m e = cc

      pub one_more : (c : Option ℕ) → (var_at b v).constant ≡ c → NumberedFrom c wide start old new → SoFar new (v + 1)
      one_more c is put = record { count = same ∙ had.count; each = λ j lj le. by_constant c is put j lj le }

    -- ---- all variables

    pub all_numbered : (table : List ℕ) (v : ℕ) → length b.vars ≤ v → SoFar table v → table ≡ map (variable_index b) (constants b)
    all_numbered table v all had = ext_get_or 0 table (map (variable_index b) (constants b))
        (had.count ∙ sym (length-map (constants b) (variable_index b)))
        (λ j lt.
        let lj : j < length (constants b) = omega (arith, lt, had.count) in
        had.each j lj (omega (arith, (numbered.cells j lj).variable, all))
        ∙ sym (get_or-map (variable_index b) (constants b) j no_constant 0 lj))
