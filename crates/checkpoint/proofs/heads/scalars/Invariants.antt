use Rattle.std.proofs.Common.{◌≡◌, ◌+◌, map}
use Rattle.kernel_model.specs.View.{rexpr_of, Scalar}
use Rattle.run_model.specs.Windows.{numbers}
use Rattle.checkpoint.proofs.heads.scalars.Given as goal

abbrev pub invariant-loop-i : goal.invariant-loop-i
invariant-loop-i l = map rexpr_of l.cells.items ≡ map Scalar (map (λ i. l.from + i) (numbers l.i))
