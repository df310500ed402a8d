use Rattle.std.proofs.Common.{rules}
use Rattle.kernel_model.specs.Numbers.{negated}
use Rattle.kernel_model.proofs.operators.numbers.minus.Goals as goal

pub returns : goal.returns
unfolding negated
returns c = search rules
