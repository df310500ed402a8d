use Rattle.std.proofs.Common.{rules}
use Rattle.kernel_model.specs.Numbers.{magnitude}
use Rattle.kernel_model.proofs.operators.numbers.absolute.Goals as goal

pub returns : goal.returns
unfolding magnitude
returns c = search rules
