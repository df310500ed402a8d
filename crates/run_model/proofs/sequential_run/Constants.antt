-- The constants that kernels read are the cells of their variables.
use Rattle.std.proofs.Common.{◌≡◌, ◌≢◌, ◌<◌, ◌≤◌, ◌+◌, ◌-◌, ◌⊎◌, ℕ, zero, suc, ℤ, pos, List, [], ◌∷◌, ◌++◌, length, get_or, take, drop, sum_by, Option, Some, None, refl, sym, ap, ◌∙◌, inl, inr, ⊎_elim, arith, get_or-append-add}
use Rattle.std.proofs.lemmas.List.{length-append, length-take, length-drop, length-replicate, length-map, get_or-take, get_or-drop, get_or-map, get_or_append_left, ext_get_or}
use Rattle.mesh_decl.specs.Mesh.{dat_count}
use Rattle.schedule_model.specs.Cells.{Variable, Store}
use Rattle.bound_program.specs.Values.{BoundValue, VarValue, no_var}
use Rattle.bound_program.specs.Fits.{ConstantsFit, constant_cells, var_at}
use Rattle.run_model.specs.Kernels.{constants, constant_values}
use Rattle.run_model.specs.Constants.{no_constant, ConstantsAreNumbered}
use Rattle.run_model.specs.Arrays.{Arrays, array_of, with_constants, constants_of, constants_in}
use Rattle.run_model.specs.Holds.{Holds}

-- ---- a part that is put into a list

module _ (first : ℕ) (cells all : List ℤ) (fits : first + length cells ≤ length all) where
  abbrev put_in : List ℤ
  put_in = take first all ++ cells ++ drop (first + length cells) all

  front_long : length (take first all) ≡ first
  front_long = omega (arith, length-take first all, fits)

  both_long : length (take first all ++ cells) ≡ first + length cells
  both_long = length-append (take first all) cells ∙ ap (λ k. k + length cells) front_long

  put_long : length put_in ≡ length all
  put_long = omega (arith, fits, both_long, length-append (take first all ++ cells) (drop (first + length cells) all), length-drop (first + length cells) all)

  inside : (i : ℕ) → i < length cells → get_or put_in (first + i) (pos 0) ≡ get_or cells i (pos 0)
  inside i lt =
      get_or_append_left (take first all ++ cells) (drop (first + length cells) all) (pos 0) (first + i) (omega (arith, lt, both_long))
      ∙ ap (λ k. get_or (take first all ++ cells) (k + i) (pos 0)) (sym front_long)
      ∙ get_or-append-add (take first all) cells i (pos 0)

  before_it : (j : ℕ) → j < first → get_or put_in j (pos 0) ≡ get_or all j (pos 0)
  before_it j lt =
      get_or_append_left (take first all ++ cells) (drop (first + length cells) all) (pos 0) j (omega (arith, lt, both_long))
      ∙ get_or_append_left (take first all) cells (pos 0) j (omega (arith, lt, front_long))
      ∙ get_or-take first all j (pos 0) lt

  behind_it : (m : ℕ) → get_or put_in (first + length cells + m) (pos 0) ≡ get_or all (first + length cells + m) (pos 0)
  behind_it m =
      ap (λ k. get_or put_in (k + m) (pos 0)) (sym both_long)
      ∙ get_or-append-add (take first all ++ cells) (drop (first + length cells) all) m (pos 0)
      ∙ get_or-drop (first + length cells) all m (pos 0)

  outside : (j : ℕ) → (j < first) ⊎ (first + length cells ≤ j) → get_or put_in j (pos 0) ≡ get_or all j (pos 0)
  outside j = ⊎_elim (before_it j) (λ le.
      let m : ℕ = j - (first + length cells) in
      let same : first + length cells + m ≡ j = omega (arith, le) in
      ap (λ k. get_or put_in k (pos 0)) (sym same) ∙ behind_it m ∙ ap (λ k. get_or all k (pos 0)) same)

-- ---- the constants of variables with these arrays

module _ (n : ℕ) where
  -- as many arrays as variables, and each one's constants are among n
  pub record Suits (xs : List VarValue) (ls : Arrays) : Type 0 where
    pub count : length ls ≡ length xs
    pub within : (w f : ℕ) → w < length xs → (get_or xs w no_var).constant ≡ Some f → f + length (get_or ls w []) ≤ n

  later : (x : VarValue) (xs : List VarValue) (l : List ℤ) (ls : Arrays) → Suits (x ∷ xs) (l ∷ ls) → Suits xs ls
  later x xs l ls h = record { count = omega (arith, h.count); within = λ w f lt e. h.within (suc w) f (omega (arith, lt)) e }

  with_long : (o : Option ℕ) (l all : List ℤ) → length all ≡ n → ((f : ℕ) → o ≡ Some f → f + length l ≤ n) → length (with_constants o l all) ≡ n
  with_long None l all long within = long
  with_long (Some f) l all long within = put_long f l all (omega (arith, long, within f refl)) ∙ long

  constants_long : (xs : List VarValue) (ls : Arrays) → Suits xs ls → length (constants_of n xs ls) ≡ n
  constants_long [] ls h = length-replicate n (pos 0)
  constants_long (x ∷ xs) [] h = length-replicate n (pos 0)
  constants_long (x ∷ xs) (l ∷ ls) h =
      with_long x.constant l (constants_of n xs ls) (constants_long xs ls (later x xs l ls h)) (λ f e. h.within 0 f (omega arith) e)

  -- number j is no constant of the other variables
  abbrev Apart : List VarValue → Arrays → (v j : ℕ) → Type 0
  Apart xs ls v j = (w f : ℕ) → w < length xs → w ≢ v → (get_or xs w no_var).constant ≡ Some f → (j < f) ⊎ (f + length (get_or ls w []) ≤ j)

  own : (o : Option ℕ) (l all : List ℤ) (f i : ℕ) → o ≡ Some f → i < length l → f + length l ≤ length all → get_or (with_constants o l all) (f + i) (pos 0) ≡ get_or l i (pos 0)
  own o l all f i e lt fits = ap (λ p. get_or (with_constants p l all) (f + i) (pos 0)) e ∙ inside f l all fits i lt

  others : (o : Option ℕ) (l all : List ℤ) (j : ℕ) → ((f : ℕ) → o ≡ Some f → f + length l ≤ length all) → ((f : ℕ) → o ≡ Some f → (j < f) ⊎ (f + length l ≤ j))
      → get_or (with_constants o l all) j (pos 0) ≡ get_or all j (pos 0)
  others None l all j fits apart = refl
  others (Some f) l all j fits apart = outside f l all (fits f refl) j (apart f refl)

  constant_is : (xs : List VarValue) (ls : Arrays) → Suits xs ls → (v f i : ℕ) → v < length xs → (get_or xs v no_var).constant ≡ Some f
      → i < length (get_or ls v []) → Apart xs ls v (f + i) → get_or (constants_of n xs ls) (f + i) (pos 0) ≡ get_or (get_or ls v []) i (pos 0)
  constant_is [] ls h v f i lv e li apart = absurd (omega (arith, lv))
  constant_is (x ∷ xs) [] h v f i lv e li apart = absurd (omega (arith, h.count))
  constant_is (x ∷ xs) (l ∷ ls) h zero f i lv e li apart =
      own x.constant l (constants_of n xs ls) f i e li (omega (arith, h.within 0 f (omega arith) e, constants_long xs ls (later x xs l ls h)))
  constant_is (x ∷ xs) (l ∷ ls) h (suc v) f i lv e li apart =
      let long = constants_long xs ls (later x xs l ls h) in
      others x.constant l (constants_of n xs ls) (f + i) (λ g t. omega (arith, long, h.within 0 g (omega arith) t)) (λ g t. apart 0 g (omega arith) (λ z. omega (arith, z)) t)
      ∙ constant_is xs ls (later x xs l ls h) v f i (omega (arith, lv)) e li (λ w g lt other t. apart (suc w) g (omega (arith, lt)) (λ z. other (omega (arith, z))) t)

-- ---- those of a program

module _ (b : BoundValue) (fit : ConstantsFit b) (l : Arrays) (s : Store) (h : Holds b l s) where
  abbrev all : ℕ
  all = sum_by constant_cells b.vars

  abbrev of_vars : Arrays
  of_vars = drop (dat_count b.mesh) l

  var_is : (v : ℕ) → get_or of_vars v [] ≡ get_or l (array_of b v) []
  var_is v = get_or-drop (dat_count b.mesh) l v []

  var_long : (v : ℕ) → v < length b.vars → length (get_or of_vars v []) ≡ length (var_at b v).start
  var_long v lt = ap length (var_is v) ∙ h.vars v lt

  suits : Suits all b.vars of_vars
  suits = record {
    count = omega (arith, length-drop (dat_count b.mesh) l, h.count);
    within = λ w f lt e. omega (arith, var_long w lt, fit.within w f lt e);
  }

  -- a constant by its variable
  of_variable : (v f i : ℕ) → v < length b.vars → (var_at b v).constant ≡ Some f → i < length (var_at b v).start
      → get_or (constants_in b l) (f + i) (pos 0) ≡ s (Variable (record { variable = v; component = i }))
  of_variable v f i lv e li =
      constant_is all b.vars of_vars suits v f i lv e (omega (arith, li, var_long v lv))
      (λ w g lw other t. ⊎_elim
      (λ (le : f + length (var_at b v).start ≤ g). inl (let lt : f + i < g = omega (arith, le, li) in lt))
      (λ (le : g + length (var_at b w).start ≤ f). inr (let lt : g + length (get_or of_vars w []) ≤ f + i = omega (arith, le, var_long w lw) in lt))
      (fit.apart v w f g lv lw (λ z. other (sym z)) e t))
      ∙ ap (λ k. get_or k i (pos 0)) (var_is v) ∙ h.values (Variable (record { variable = v; component = i })) (lv, li)

  pub constants_same : ConstantsAreNumbered → constants_in b l ≡ constant_values b s
  constants_same numbered =
      let are = numbered b fit in
      let long : length (constants_in b l) ≡ all = constants_long all b.vars of_vars suits in
      ext_get_or (pos 0) (constants_in b l) (constant_values b s)
      (long ∙ sym (length-map (constants b) (λ v. s (Variable v)) ∙ are.count))
      (λ j lt.
      let lj : j < length (constants b) = omega (arith, lt, long, are.count) in
      let is = are.cells j lj in
      ap (λ k. get_or (constants_in b l) k (pos 0)) (sym is.number)
      ∙ of_variable (get_or (constants b) j no_constant).variable is.first (get_or (constants b) j no_constant).component is.variable is.constant is.component
      ∙ sym (get_or-map (λ v. s (Variable v)) (constants b) j no_constant (pos 0) lj))
