-- The values of constants, variable by variable.
use Rattle.std.proofs.Common.{◌≡◌, ◌≢◌, ◌<◌, ◌≤◌, ◌+◌, ◌⊎◌, inl, inr, ⊎_elim, ℕ, ℤ, pos, List, map, length, get_or, Some, None, sym, ap, ◌∙◌, arith}
use Rattle.std.proofs.lemmas.Bool.{cases_lt}
use Rattle.std.proofs.lemmas.Option.{same_Some, none-some}
use Rattle.std.proofs.lemmas.List.{length-map, get_or-map, ext_get_or}
use Rattle.schedule_model.specs.Cells.{Variable, VarCell}
use Rattle.bound_program.specs.declared.programs.Var.{Var}
use Rattle.bound_program.specs.Values.{BoundValue, var_of, no_var}
use Rattle.bound_program.specs.Fits.{ConstantsFit, var_at}
use Rattle.run_model.specs.Windows.{Whole, cell_in}
use Rattle.run_model.specs.Arguments.{var_width}
use Rattle.run_model.specs.Kernels.{constants}
use Rattle.run_model.specs.Constants.{AreNumbered, no_constant}
use Rattle.deep_halo.specs.Places.{in_block}
use Rattle.deep_halo.specs.Cells.{Values, BlocksHold}
use Rattle.deep_halo.proofs.chain_memory.chain_stores.Writing.{has_of, block_follow}
use Rattle.deep_halo.specs.Constants.{AreRead, constants_in}

-- a variable as it is read
pub var_read : (b : BoundValue) (xs : List Var) (v : ℕ) (x : Var) → b.vars ≡ map var_of xs → v < length b.vars → x ≡ get_or xs v x → var_at b v ≡ var_of x
var_read b xs v x same lt e =
    ap (λ ys. get_or ys v no_var) same ∙ get_or-map var_of xs v x no_var (let n : length b.vars ≡ length xs = ap length same ∙ length-map xs var_of in omega (arith, n, lt)) ∙ ap var_of (sym e)

module _ (b : BoundValue) (fits : ConstantsFit b) (values : VarCell → ℤ) where
  -- a variable with no constants
  pub read_skipped : (n : ℕ) (list : List ℤ) → (var_at b n).constant ≡ None → AreRead b values n list → AreRead b values (n + 1) list
  read_skipped n list none are v first i lt is li = ⊎_elim
      (λ (l : v < n). are v first i l is li)
      (λ (l : n ≤ v). let same : v ≡ n = omega (arith, lt, l) in absurd (none-some first (sym none ∙ sym (ap (λ k. (var_at b k).constant) same) ∙ is)))
      (cases_lt v n)

  -- one with some
  pub read_more : (n first count : ℕ) (old new : List ℤ) → n < length b.vars → (var_at b n).constant ≡ Some first → count ≡ var_width b n
      → ((i : ℕ) → i < count → get_or new (first + i) (pos 0) ≡ values (record { variable = n; component = i }))
      → ((k : ℕ) → (k < first) ⊎ (first + count ≤ k) → get_or new k (pos 0) ≡ get_or old k (pos 0))
      → AreRead b values n old → AreRead b values (n + 1) new
  read_more n first count old new ln is wide here others are v other i lt isv li = ⊎_elim
      (λ (l : v < n).
      let lv : v < length b.vars = omega (arith, l, ln) in
      let ne : n ≢ v = λ (q : n ≡ v). omega (arith, q, l) in
      others (other + i) (⊎_elim
      (λ (p : first + var_width b n ≤ other). inr (let q : first + count ≤ other + i = omega (arith, p, wide) in q))
      (λ (p : other + var_width b v ≤ first). inl (let q : other + i < first = omega (arith, p, li) in q))
      (fits.apart n v first other ln lv ne is isv))
      ∙ are v other i l isv li)
      (λ (l : n ≤ v).
      let same : v ≡ n = omega (arith, lt, l) in
      let one : other ≡ first = same_Some other first (sym isv ∙ ap (λ k. (var_at b k).constant) same ∙ is) in
      ap (λ k. get_or new (k + i) (pos 0)) one
      ∙ here i (let w : var_width b v ≡ var_width b n = ap (var_width b) same in omega (arith, w, wide, li))
      ∙ ap (λ k. values (record { variable = k; component = i })) (sym same))
      (cases_lt v n)

  -- all of them
  pub read_all : AreNumbered b → (n : ℕ) (list : List ℤ) → length b.vars ≤ n → length list ≡ length (constants b) → AreRead b values n list → list ≡ constants_in b values
  read_all law n list le count are = ext_get_or (pos 0) list (constants_in b values) (count ∙ sym (length-map (constants b) values))
      (λ j lj.
      let lc : j < length (constants b) = omega (arith, lj, count) in
      let is = law.cells j lc in
      let c = get_or (constants b) j no_constant in
      ap (λ k. get_or list k (pos 0)) (sym is.number)
      ∙ are c.variable is.first c.component (let q = is.variable in omega (arith, q, le)) is.constant is.component
      ∙ sym (get_or-map values (constants b) j no_constant (pos 0) lc))

-- the cells of a variable behind the ranks' blocks
pub last_cells : (b : BoundValue) (ranks v from count : ℕ) (memory new : List ℤ) (f : Values) (first : ℕ) → v < length b.vars
    → BlocksHold b ranks memory f → from ≡ in_block b ranks (cell_in (Whole v) 0) → count ≡ var_width b v
    → ((i : ℕ) → i < count → get_or new (first + i) (pos 0) ≡ get_or memory (from + i) (pos 0))
    → (i : ℕ) → i < count → get_or new (first + i) (pos 0) ≡ f ranks (Variable (record { variable = v; component = i }))
last_cells b ranks v from count memory new f first lv holds at wide copied i li =
    copied i li ∙ ap (λ k. get_or memory (k + i) (pos 0)) at ∙ ap (λ k. get_or memory k (pos 0)) (sym (block_follow b ranks (Whole v) i))
    ∙ holds.cells ranks (cell_in (Whole v) i) (omega arith) (has_of b (Whole v) i lv (let q : i < var_width b v = omega (arith, li, wide) in q))
