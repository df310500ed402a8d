use Rattle.std.proofs.Common.{rules}
use Rattle.kernel_model.specs.Numbers.{product}
use Rattle.kernel_model.proofs.operators.numbers.mul.Goals as goal

pub returns : goal.returns
unfolding product
returns c = search rules
