-- Statements of `main` leave numbers of 32 bits.
use Rattle.std.proofs.Common.{◌+◌, ◌*◌, ℕ, zero, suc, ℤ, pos, Bool, true, false, List, [], ◌∷◌, map, get_or, Option, Some, None, Result, Ok, Err, cond, subst, FitsSigned, w32, arith}
use Rattle.std.specs.Prelude.{◌&&◌, nat_eq, slice_index_or}
use Rattle.kernel_model.specs.declared.types.faults.KernelFault.{KernelFault}
use Rattle.kernel_model.specs.Numbers.{Value, truth, is_zero, is_settled, apply, not}
use Rattle.kernel_model.specs.Meaning.{on_value, and_then, index_in, stored}
use Rattle.kernel_model.specs.Operators.{IsNumber, OperatorsStayInRange}
use Rattle.mesh_decl.specs.Mesh.{dat_dim}
use Rattle.schedule_model.specs.Cells.{Data, Variable, VarCell, Store, InRange}
use Rattle.schedule_model.specs.Program.{Hosted, Halts, Goes}
use Rattle.kernel_model.specs.View.{RExprTree, Number, Scalar, Constant, Arg, Local, Const, Unary, Binary, Choice, Paren, Extremum, Absolute}
use Rattle.bound_program.specs.HostExpr.{value}
use Rattle.bound_program.specs.Values.{BoundValue, ItemValue, Free, Reduce, Ordered, Host, ActValue, Clear, Assign, Line, Print, Exit}
use Rattle.bound_program.specs.Fits.{HostWithin, ActFits, ItemsFit, due, var_at}
use Rattle.run_model.specs.Hosts.{variables_of, variable_cells, value_of, values_of, component_of, act_run}
use Rattle.run_model.specs.Programs.{act_in, item_at}
use Rattle.run_model.specs.Ranges.{FirstValuesInRange, HostsKeepRange}

-- ---- values

zero_fits : FitsSigned w32 (pos 0)
zero_fits = record { sfits = omega arith }

-- goes on with a number
then_number : (r : Value) (go : ℤ → Value) → IsNumber r → ((x : ℤ) → FitsSigned w32 x → IsNumber (go x)) → IsNumber (and_then r go)
then_number (Ok x) go h next = next x h
then_number (Err f) go h next = tt

-- goes on with anything
then_any : {A : Type 0} (r : Result A KernelFault) (go : A → Value) → ((x : A) → IsNumber (go x)) → IsNumber (and_then r go)
then_any (Ok x) go next = next x
then_any (Err f) go next = tt

either : (t : Bool) (x y : Value) → IsNumber x → IsNumber y → IsNumber (cond t x y)
either true x y f g = f
either false x y f g = g

module _ (ops : OperatorsStayInRange) (b : BoundValue) (cells : List ℤ) (small : (j : ℕ) → FitsSigned w32 (slice_index_or cells j (pos 0))) where
  number : (e : RExprTree) → HostWithin b e → IsNumber (value [] cells e)
  number (Number n) w = w
  number (Scalar k) w = small k
  number (Constant k) w = absurd w
  number (Arg x form e at) w = absurd w
  number (Const from count form e at) w = absurd w
  number (Local from count form e at) w =
      then_number (value [] cells e) (λ z. and_then (index_in count at z) (λ i. Ok (slice_index_or cells (from + i) (pos 0)))) (number e w.1)
      (λ z h. then_any (index_in count at z) (λ i. Ok (slice_index_or cells (from + i) (pos 0))) (λ i. small (from + i)))
  number (Unary op e) w = then_number (value [] cells e) _ (number e w) (λ x h. ops.unary op x h)
  number (Binary op l r at) w =
      then_number (value [] cells l) _ (number l w.0)
      (λ x h. either (is_settled op x) (Ok (truth (not (is_zero x)))) (and_then (value [] cells r) (λ y. apply op at x y)) (ops.tests (not (is_zero x)))
      (then_number (value [] cells r) (λ y. apply op at x y) (number r w.1) (λ y k. ops.binary op at x y h k)))
  number (Choice c x y) w =
      then_number (value [] cells c) _ (number c w.0) (λ z h. either (is_zero z) (value [] cells y) (value [] cells x) (number y w.2) (number x w.1))
  number (Paren e) w = number e w
  number (Extremum which x y) w =
      then_number (value [] cells x) _ (number x w.0) (λ p h. then_number (value [] cells y) _ (number y w.1) (λ q k. ops.extrema which p q h k))
  number (Absolute e) w = then_number (value [] cells e) _ (number e w) (λ z h. ops.magnitudes z)

-- ---- statements

-- the variables are in range afterwards, unless it faults
abbrev LeavesInRange : Hosted KernelFault → Type 0
LeavesInRange (Halts f) = Unit {0}
LeavesInRange (Goes v o) = (x : VarCell) → FitsSigned w32 (v x)

on_number : (r : Value) (go : ℤ → Hosted KernelFault) → IsNumber r → ((x : ℤ) → FitsSigned w32 x → LeavesInRange (go x)) → LeavesInRange (on_value Halts r go)
on_number (Ok x) go h next = next x h
on_number (Err f) go h next = tt

on_any : {A : Type 0} (r : Result A KernelFault) (go : A → Hosted KernelFault) → ((x : A) → LeavesInRange (go x)) → LeavesInRange (on_value Halts r go)
on_any (Ok x) go next = next x
on_any (Err f) go next = tt

if_fits : (t : Bool) (x y : ℤ) → FitsSigned w32 x → FitsSigned w32 y → FitsSigned w32 (cond t x y)
if_fits true x y f g = f
if_fits false x y f g = g

variables_fit : (s : Store) (xs : List VarCell) → InRange s → (j : ℕ) → FitsSigned w32 (get_or (map (variables_of s) xs) j (pos 0))
variables_fit s [] h j = zero_fits
variables_fit s (x ∷ xs) h zero = h (Variable x)
variables_fit s (x ∷ xs) h (suc j) = variables_fit s xs h j

module _ (ops : OperatorsStayInRange) (b : BoundValue) (s : Store) (small : InRange s) where
  value_fits : (e : RExprTree) → HostWithin b e → IsNumber (value_of b s e)
  value_fits e w = number ops b (map (variables_of s) (variable_cells b)) (variables_fit s (variable_cells b) small) e w

  act_leaves : (a : ActValue) → ActFits b a → LeavesInRange (act_run b s a)
  act_leaves (Clear v) w = λ x. if_fits (nat_eq x.variable v) (pos 0) (s (Variable x)) zero_fits (small (Variable x))
  act_leaves (Assign v index op op_at e at) w =
      on_any (component_of b s (var_at b v) at index) _ (λ i.
      on_number (value_of b s e) _ (value_fits e w.3) (λ x h.
      let old = s (Variable (record { variable = v; component = i })) in
      let fits = small (Variable (record { variable = v; component = i })) in
      on_number (stored op op_at old x) _ (ops.assigned op op_at old x fits h)
      (λ z k y. if_fits (nat_eq y.variable v && nat_eq y.component i) z (s (Variable y)) k (small (Variable y)))))
  act_leaves (Line text es) w = on_any (values_of b s es) _ (λ zs x. small (Variable x))
  act_leaves (Print d file) w = λ x. small (Variable x)
  act_leaves Exit w = λ x. small (Variable x)

-- ---- the trace

module _ (b : BoundValue) where
  act_fits : (o : Option ℕ) (xs : List ItemValue) (k : ℕ) → ItemsFit b o xs → ActFits b (act_in (get_or xs k (Host Exit)))
  act_fits o [] k f = tt
  act_fits None (Free n ∷ xs) zero f = tt
  act_fits None (Ordered n ∷ xs) zero f = tt
  act_fits None (Host a ∷ xs) zero f = f.0
  act_fits None (Reduce n ∷ xs) k f = absurd f
  act_fits None (Free n ∷ xs) (suc k) f = act_fits (due b n) xs k f.2
  act_fits None (Ordered n ∷ xs) (suc k) f = act_fits None xs k f.2
  act_fits None (Host a ∷ xs) (suc k) f = act_fits None xs k f.1
  act_fits (Some m) (Reduce n ∷ xs) zero f = tt
  act_fits (Some m) (Reduce n ∷ xs) (suc k) f = act_fits None xs k f.1
  act_fits (Some m) (Free n ∷ xs) k f = absurd f
  act_fits (Some m) (Ordered n ∷ xs) k f = absurd f
  act_fits (Some m) (Host a ∷ xs) k f = absurd f

pub hosts_keep_range : OperatorsStayInRange → HostsKeepRange
hosts_keep_range ops b k s v o fits small goes =
    subst LeavesInRange goes (act_leaves ops b s small (act_in (item_at b k)) (act_fits b None b.trace k fits.items))

pub first_values_in_range : FirstValuesInRange
first_values_in_range b h (Data c) = h.dats c.dat (c.element * dat_dim b.mesh c.dat + c.component)
first_values_in_range b h (Variable v) = h.vars v.variable v.component
