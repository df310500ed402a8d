-- Chains of binary operators, each the left operand of the one before it (ISO C 6.5: binary operators group to the left).
use Rattle.std.specs.Prelude.{ℕ, zero, suc, ℤ, pos, List, Option, get_or}
use Rattle.kernel_model.specs.declared.types.expressions.RExpr.{RExpr}
use Rattle.kernel_model.specs.declared.types.expressions.RExpr.TheVariants.{Number, Binary'}
use Rattle.kernel_model.specs.Obeys.{Counters, static, static_op}

module _ (cs : Counters) where
  -- the static value of a binary expression whose left operand has the value x
  abbrev pub after_left : RExpr → Option ℤ → Option ℤ
  after_left (Binary' op p a q b at) x = static_op op x (static b cs)
  after_left e x = x

  -- the static value of the first of n nodes, each the left operand of the one before it, where that of the last one's left operand is x
  abbrev pub over_chain : List RExpr → ℕ → Option ℤ → Option ℤ
  over_chain nodes zero x = x
  over_chain nodes (suc n) x = over_chain nodes n (after_left (get_or nodes n (Number (pos 0))) x)
