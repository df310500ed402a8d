-- What a statement that is no loop leaves in the memory.
use Rattle.std.proofs.Common.{◌≡◌, ◌<◌, ◌≤◌, ◌+◌, ◌⊎◌, inl, inr, ℕ, ℤ, pos, negsuc, true, false, List, [], ◌∷◌, map, length, get_or, set, drop, Option, Some, None, Result, Ok, Err, refl, sym, ap, ap₂, ◌∙◌, subst, ⊎_elim, arith}
use Rattle.std.specs.Prelude.{nat_lt}
use Rattle.std.proofs.lemmas.Bool.{cases_Bool, cond-true, cond-false, ltb-true}
use Rattle.std.proofs.lemmas.List.{append-nil, get_or-drop}
use Rattle.c_tree.specs.declared.lexer.tokens.Pos.{Pos}
use Rattle.c_tree.specs.declared.declarations.AssignOp.{AssignOp}
use Rattle.op_num.specs.declared.refusals.Fault.TheVariants.{Index}
use Rattle.kernel_model.specs.declared.types.faults.KernelFault.{KernelFault}
use Rattle.kernel_model.specs.Numbers.{Value, fault}
use Rattle.kernel_model.specs.Meaning.{on_value, index_in, stored}
use Rattle.mesh_decl.specs.Printed.{printed_line}
use Rattle.schedule_model.specs.Cells.{Variable, VarCell, Store}
use Rattle.schedule_model.specs.Program.{Hosted, Halts, Goes}
use Rattle.schedule_model.specs.Sequential.{with_variables}
use Rattle.kernel_model.specs.View.{RExprTree}
use Rattle.bound_program.specs.HostExpr.{value}
use Rattle.bound_program.specs.Values.{BoundValue}
use Rattle.bound_program.specs.Fits.{var_at}
use Rattle.run_model.specs.Hosts.{variables_of, variable_cells, with_cell, with_zeros, value_of, values_of, component_of, assigned, prints}
use Rattle.run_model.specs.Arguments.{var_width}
use Rattle.run_model.specs.Memory.{var_start, Holds, MemoryEndsWithVariables, MemoryTakesAssignments, MemoryTakesZeros, IsInOrder}
use Rattle.run_model.specs.Acts.{values_in, component_in, new_value_in, ActEnds, PrintsLine}
use Rattle.run_model.proofs.gather.host_acts.Stores.{same_variables}

-- ---- lines

module _ (b : BoundValue) (s : Store) where
  -- the cells of all variables
  abbrev pub its_cells : List ℤ
  its_cells = map (variables_of s) (variable_cells b)

  values_same : (es : List RExprTree) → values_of b s es ≡ values_in its_cells es
  values_same [] = refl
  values_same (e ∷ es) = ap (λ r. on_value Err (value [] its_cells e) (λ z. on_value Err r (λ zs. Ok (z ∷ zs)))) (values_same es)

  module _ (m : List ℤ) (holds : Holds b m s) (text old new : List ℕ) where
    line_ends : {A : Type 0} (r : Result A KernelFault) (q : Result (List ℤ) KernelFault) → PrintsLine text old new r q
        → ActEnds b m s old new r (on_value Halts q (λ zs. prints b s (printed_line text zs)))
    line_ends (Ok x) (Ok zs) h = (same_variables b m s holds, h)
    line_ends (Err f) (Err g) h = h
    line_ends (Ok x) (Err g) h = absurd h
    line_ends (Err f) (Ok zs) h = absurd h

    pub line_printed : {A : Type 0} (r : Result A KernelFault) (cells : List ℤ) (es : List RExprTree) → its_cells ≡ cells → PrintsLine text old new r (values_in cells es)
        → ActEnds b m s old new r (on_value Halts (values_of b s es) (λ zs. prints b s (printed_line text zs)))
    line_printed r cells es same h = line_ends r (values_of b s es)
        (subst (PrintsLine text old new r) (sym (values_same es ∙ ap (λ l. values_in l es) same)) h)

-- ---- assignments

abbrev is_value : ℕ → Result ℕ KernelFault
is_value j = Ok j

-- an index that is good lies below the count
index_below : (count : ℕ) (at : Pos) (z : ℤ) (i : ℕ) → index_in count at z ≡ Ok i → i < count
index_below count at (pos j) i e = ⊎_elim
    (λ (t : nat_lt j count ≡ true).
    let same : j ≡ i = (cc (sym (cond-true (nat_lt j count) (is_value j) (Err (fault Index at)) t) ∙ e)) in
    omega (arith, same, ltb-true j count t))
    (λ (f : nat_lt j count ≡ false). (cc (sym (cond-false (nat_lt j count) (is_value j) (Err (fault Index at)) f) ∙ e)))
    (cases_Bool (nat_lt j count))
index_below count at (negsuc j) i e = cc

component_below : (count : ℕ) (at : Pos) (v : Value) (i : ℕ) → on_value Err v (λ z. index_in count at z) ≡ Ok i → i < count
component_below count at (Ok z) i e = index_below count at z i e
component_below count at (Err f) i e = cc

pub is_below : (cells : List ℤ) (count : ℕ) (at : Pos) (index : Option RExprTree) (i : ℕ) → 0 < count → component_in cells count at index ≡ Ok i → i < count
is_below cells count at None i some e = let same : 0 ≡ i = cc in omega arith
is_below cells count at (Some x) i some e = component_below count at (value [] cells x) i e

module _ (v : ℕ) (vars : VarCell → ℤ) (op : AssignOp) (op_at : Pos) where
  -- an assignment that stores there
  abbrev pub storing : ℕ → ℤ → Hosted KernelFault
  storing i z = Goes (with_cell (record { variable = v; component = i }) z vars) []

  by_value : (x : Value) (i : ℕ) (old own : ℤ) → old ≡ own
      → on_value Halts x (λ y. on_value Halts (stored op op_at old y) (storing i)) ≡ on_value Halts (on_value Err x (λ y. stored op op_at own y)) (storing i)
  by_value (Ok y) i old own e = ap (λ o. on_value Halts (stored op op_at o y) (storing i)) e
  by_value (Err f) i old own e = refl

  by_component : (c : Result ℕ KernelFault) (x : Value) (count : ℕ) (old own : ℕ → ℤ) → ((i : ℕ) → c ≡ Ok i → i < count) → ((i : ℕ) → i < count → old i ≡ own i)
      → on_value Halts c (λ i. on_value Halts x (λ y. on_value Halts (stored op op_at (old i) y) (storing i)))
      ≡ on_value Halts c (λ i. on_value Halts (on_value Err x (λ y. stored op op_at (own i) y)) (storing i))
  by_component (Ok i) x count old own below same = by_value x i (old i) (own i) (same i (below i refl))
  by_component (Err f) x count old own below same = refl

module _ (b : BoundValue) (order : IsInOrder b) (m : List ℤ) (s : Store) (holds : Holds b m s) (v start : ℕ) (lv : v < length b.vars)
    (some : 0 < var_width b v) (begins : start + var_start b 0 ≡ var_start b v)
    (cells : List ℤ) (is : its_cells b s ≡ cells) (are : cells ≡ drop (var_start b 0) m) where
  old_value : (i : ℕ) → i < var_width b v → s (Variable (record { variable = v; component = i })) ≡ get_or cells (start + i) (pos 0)
  old_value i li =
      sym (ap (λ l. get_or l (start + i) (pos 0)) are ∙ get_or-drop (var_start b 0) m (start + i) (pos 0)
      ∙ ap (λ k. get_or m k (pos 0)) (let at : var_start b 0 + (start + i) ≡ var_start b v + i = omega (arith, begins) in at)
      ∙ holds.values (Variable (record { variable = v; component = i })) (order.components v i lv li))

  component_same : (at : Pos) (index : Option RExprTree) → component_of b s (var_at b v) at index ≡ component_in cells (var_width b v) at index
  component_same at None = refl
  component_same at (Some e) = ap (λ l. on_value Err (value [] l e) (λ z. index_in (var_width b v) at z)) is

  -- an assignment, by the component and the new value
  abbrev pub storing_at : ℕ → ℤ → Hosted KernelFault
  storing_at i z = Goes (with_cell (record { variable = v; component = i }) z (variables_of s)) []

  module _ (index : Option RExprTree) (op : AssignOp) (op_at : Pos) (e : RExprTree) (at : Pos) where
    assigned_same : assigned b s v index op op_at e at
        ≡ on_value Halts (component_in cells (var_width b v) at index) (λ i. on_value Halts (new_value_in cells (start + i) op op_at e) (storing_at i))
    assigned_same =
        ap (λ c. on_value Halts c (λ i. on_value Halts (value_of b s e)
        (λ x. on_value Halts (stored op op_at (s (Variable (record { variable = v; component = i }))) x) (storing_at i))))
        (component_same at index)
        ∙ ap (λ l. on_value Halts (component_in cells (var_width b v) at index)
        (λ i. on_value Halts (value [] l e) (λ x. on_value Halts (stored op op_at (s (Variable (record { variable = v; component = i }))) x) (storing_at i)))) is
        ∙ by_component v (variables_of s) op op_at (component_in cells (var_width b v) at index) (value [] cells e) (var_width b v)
        (λ i. s (Variable (record { variable = v; component = i }))) (λ i. get_or cells (start + i) (pos 0))
        (λ i h. is_below cells (var_width b v) at index i some h) old_value

    pub bad_component : (f : KernelFault) → component_in cells (var_width b v) at index ≡ Err f → assigned b s v index op op_at e at ≡ Halts f
    bad_component f h = assigned_same ∙ ap (λ c. on_value Halts c (λ i. on_value Halts (new_value_in cells (start + i) op op_at e) (storing_at i))) h

    module _ (i : ℕ) (h : component_in cells (var_width b v) at index ≡ Ok i) where
      by_its_value : (r : Value) → new_value_in cells (start + i) op op_at e ≡ r → assigned b s v index op op_at e at ≡ on_value Halts r (storing_at i)
      by_its_value r g =
          assigned_same ∙ ap (λ c. on_value Halts c (λ j. on_value Halts (new_value_in cells (start + j) op op_at e) (storing_at j))) h
          ∙ ap (λ x. on_value Halts x (storing_at i)) g

      pub bad_value : (f : KernelFault) → new_value_in cells (start + i) op op_at e ≡ Err f → assigned b s v index op op_at e at ≡ Halts f
      bad_value f g = by_its_value (Err f) g

      pub is_stored : (z : ℤ) → new_value_in cells (start + i) op op_at e ≡ Ok z → assigned b s v index op op_at e at ≡ storing_at i z
      is_stored z g = by_its_value (Ok z) g

-- ---- declarations

pub var_cleared : (b : BoundValue) → MemoryTakesZeros → (m left : List ℤ) (v from count : ℕ) → v < length b.vars → from ≡ var_start b v → count ≡ var_width b v → length left ≡ length m
    → ((i : ℕ) → i < count → get_or left (from + i) (pos 0) ≡ pos 0)
    → ((k : ℕ) → (k < from) ⊎ (from + count ≤ k) → get_or left k (pos 0) ≡ get_or m k (pos 0))
    → (s : Store) → Holds b m s → Holds b left (with_variables (with_zeros v (variables_of s)) s)
var_cleared b law m left v from count lv begins wide long zeros others s holds =
    law b m left s v holds lv long
    (λ i lt. ap (λ k. get_or left (k + i) (pos 0)) (sym begins) ∙ zeros i (omega (arith, wide)))
    (λ k w. others k (⊎_elim (λ l. inl (omega (arith, l, begins))) (λ l. inr (omega (arith, l, begins, wide))) w))

-- ---- an assignment, as the code goes

module _ (b : BoundValue) (order : IsInOrder b) (law : MemoryEndsWithVariables) (m : List ℤ) (s : Store) (holds : Holds b m s) (v from count : ℕ)
    (lv : v < length b.vars) (some : 0 < var_width b v) (from_is : from ≡ var_start b v) (count_is : count ≡ var_width b v) (none : var_start b 0 ≡ 0)
    (index : Option RExprTree) (op : AssignOp) (op_at : Pos) (e : RExprTree) (at : Pos) (out : List ℕ) where
  begins : from + var_start b 0 ≡ var_start b v
  begins = omega arith

  behind_dats : m ≡ drop (var_start b 0) m
  behind_dats = ap (λ k. drop k m) (sym none)

  its : its_cells b s ≡ m
  its = law b m s holds ∙ sym behind_dats

  wide : (c : Result ℕ KernelFault) → component_in m count at index ≡ c → component_in m (var_width b v) at index ≡ c
  wide c h = ap (λ n. component_in m n at index) (sym count_is) ∙ h

  halted : {A : Type 0} (f g : KernelFault) (r : Result A KernelFault) → r ≡ Err g → g ≡ f → assigned b s v index op op_at e at ≡ Halts f
      → ActEnds b m s out out r (assigned b s v index op op_at e at)
  halted {A} f g r is same h =
      subst (λ x. ActEnds b m s out out x (assigned b s v index op op_at e at)) (sym is)
      (subst (λ x. ActEnds b m s out out {A = A} (Err g) x) (sym h) (same, refl))

  pub index_faults : {A : Type 0} (f g : KernelFault) (r : Result A KernelFault) → r ≡ Err g → g ≡ f → component_in m count at index ≡ Err f
      → ActEnds b m s out out r (assigned b s v index op op_at e at)
  index_faults f g r is same h =
      halted f g r is same (bad_component b order m s holds v from lv some begins m its behind_dats index op op_at e at f (wide (Err f) h))

  module _ (i : ℕ) (h : component_in m count at index ≡ Ok i) where
    pub value_faults : {A : Type 0} (f g : KernelFault) (r : Result A KernelFault) → r ≡ Err g → g ≡ f → new_value_in m (from + i) op op_at e ≡ Err f
        → ActEnds b m s out out r (assigned b s v index op op_at e at)
    value_faults f g r is same k =
        halted f g r is same (bad_value b order m s holds v from lv some begins m its behind_dats index op op_at e at i (wide (Ok i) h) f k)

    pub assigns : {A : Type 0} → MemoryTakesAssignments → (x : A) (z y : ℤ) → y ≡ z → i < count → new_value_in m (from + i) op op_at e ≡ Ok z
        → ActEnds b (set m (from + i) y) s out out (Ok x) (assigned b s v index op op_at e at)
    assigns takes x z y same lt k =
        let left : set m (var_start b v + i) z ≡ set m (from + i) y = ap₂ (λ p q. set m (p + i) q) (sym from_is) (sym same) in
        subst (λ w. ActEnds b (set m (from + i) y) s out out (Ok x) w)
        (sym (is_stored b order m s holds v from lv some begins m its behind_dats index op op_at e at i (wide (Ok i) h) z k)) (
          subst (λ l. Holds b l (with_variables (with_cell (record { variable = v; component = i }) z (variables_of s)) s)) left
              (takes b m s v i z holds lv (omega (arith, lt, count_is))),
          sym (append-nil out),
        )
