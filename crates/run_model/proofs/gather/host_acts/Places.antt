-- Where variables stand.
use Rattle.std.proofs.Common.{◌≡◌, ◌<◌, ◌≤◌, ◌+◌, ℕ, List, map, length, get_or, sym, ap, ◌∙◌, arith}
use Rattle.std.proofs.lemmas.List.{get_or-map}
use Rattle.bound_program.specs.declared.programs.Var.{Var}
use Rattle.bound_program.specs.Values.{BoundValue, var_of, no_var}
use Rattle.run_model.specs.Arguments.{var_width}
use Rattle.run_model.specs.Memory.{var_start, memory_length, IsInOrder}

-- a variable's cells, as they are read
pub var_is : (xs : List Var) (v : ℕ) (x : Var) → v < length xs → x ≡ get_or xs v x → get_or (map var_of xs) v no_var ≡ var_of x
var_is xs v x lt e = get_or-map var_of xs v x no_var lt ∙ ap var_of (sym e)

pub var_reaches : (b : BoundValue) → IsInOrder b → (v from count : ℕ) → v < length b.vars → from ≡ var_start b v → count ≡ var_width b v → from + count ≤ memory_length b
var_reaches b order v from count lv e g = omega (arith, order.vars v (length b.vars) lv, e, g)
