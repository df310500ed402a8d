-- Where variables begin among the cells of all.
use Rattle.std.proofs.Common.{◌≡◌, ◌<◌, ◌+◌, ◌^◌, ℕ, ℤ, zero, suc, pos, List, length, get_or, map, refl, sym, ap, ◌∙◌, arith}
use Rattle.std.specs.Prelude.{slice_index}
use Rattle.std.proofs.lemmas.List.{length-map, get_or-map}
use Rattle.schedule_model.specs.Cells.{Store}
use Rattle.bound_program.specs.declared.programs.Var.{Var}
use Rattle.bound_program.specs.Values.{BoundValue, VarValue, var_of, no_var}
use Rattle.bound_program.specs.Fits.{var_at}
use Rattle.run_model.specs.Hosts.{variables_of, variable_cells}
use Rattle.run_model.specs.Arguments.{var_width}
use Rattle.run_model.specs.Memory.{var_start, memory_length}
use Rattle.run_model.specs.Variables.{of_vars, VarsBegin, VariablesHold}
use Rattle.bound_plan.specs.Variables.{cells_before}
use Rattle.bound_plan.proofs.Public.{indexed}

-- a variable, as it is read
pub var_read : (vars : List Var) (v : ℕ) (x : Var) → v < length vars → x ≡ get_or vars v x → get_or (map var_of vars) v no_var ≡ var_of x
var_read vars v x lt is = get_or-map var_of vars v x no_var lt ∙ ap var_of (sym is)

-- how many cells it has
pub width_read : (b : BoundValue) (vars : List Var) (v : ℕ) (x : Var) (cells : List ℤ) → b.vars ≡ map var_of vars → v < length b.vars → x ≡ get_or vars v x → cells ≡ x.start
    → length cells ≡ var_width b v
width_read b vars v x cells all lv is start =
    let l = length-map vars var_of in
    ap length start ∙ sym (ap (λ (z : VarValue). length z.start) (ap (λ z. get_or z v no_var) all ∙ var_read vars v x (omega (arith, lv, l, ap length all)) is))

-- the same in a list that is the variables
pub read_at : (b : BoundValue) (vars list : List Var) (v : ℕ) (x : Var) → b.vars ≡ map var_of vars → list ≡ vars → v < length b.vars → x ≡ get_or list v x → var_at b v ≡ var_of x
read_at b vars list v x all same lv is =
    let l = length-map vars var_of in
    ap (λ z. get_or z v no_var) all ∙ var_read vars v x (omega (arith, lv, l, ap length all)) (is ∙ ap (λ (z : List Var). get_or z v x) same)

pub width_at : (b : BoundValue) (vars list : List Var) (v : ℕ) (x : Var) → b.vars ≡ map var_of vars → list ≡ vars → v < length b.vars → x ≡ get_or list v x
    → length x.start ≡ var_width b v
width_at b vars list v x all same lv is = sym (ap (λ (z : VarValue). length z.start) (read_at b vars list v x all same lv is))

begin_is : (b : BoundValue) (v : ℕ) → var_start (of_vars b.vars) v ≡ cells_before b v
begin_is b zero = refl
begin_is b (suc v) = ap (λ z. z + var_width b v) (begin_is b v)

-- a variable begins behind those before it
pub begins_at : (b : BoundValue) (starts : List ℕ) → VarsBegin b.vars starts → (v : ℕ) → v < length b.vars → slice_index starts v ≡ cells_before b v
begins_at b starts are v lv = are.each v lv ∙ begin_is b v

-- its cells have numbers that fit
pub cells_fit : (b : BoundValue) (v from count : ℕ) → length (variable_cells b) < 2 ^ 64 → v < length b.vars → from < 2 ^ 64
    → from ≡ cells_before b v → count ≡ var_width b v → from + count < 2 ^ 64
cells_fit b v from zero few lv small at wide = omega arith
cells_fit b v from (suc n) few lv small at wide =
    let last = (indexed b (record { variable = v; component = n }) lv (omega (arith, wide))).0 in
    omega (arith, last, few, at)

-- as many cells as a memory of the variables alone
pub all_cells : VariablesHold → (b : BoundValue) → memory_length (of_vars b.vars) ≡ length (variable_cells b)
all_cells hold b =
    let s : Store = λ c. pos 0 in
    sym (hold b s).length ∙ length-map (variable_cells b) (variables_of s)
