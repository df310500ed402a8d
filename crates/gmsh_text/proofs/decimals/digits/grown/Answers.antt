use Rattle.std.proofs.Common.{arith}
use Rattle.gmsh_text.proofs.decimals.Numbers.{so_far-step, so_far-all}
use Rattle.gmsh_text.proofs.decimals.digits.grown.Goals as goal

pub loop-digit-preserved : goal.loop-digit-preserved
loop-digit-preserved c n h = so_far-step n _ _ _ _ (c.loop-digit.invariant n h) (omega arith) c.from.result c.from.ensures c.with_digit-value.ensures

pub returns : goal.returns
returns c n h = so_far-all n _ _ _ (c.loop-digit.invariant n h) (omega arith)
