use Rattle.std.proofs.Common.{rules}
use Rattle.kernel_model.specs.Numbers.{sum}
use Rattle.kernel_model.proofs.operators.numbers.add.Goals as goal

pub returns : goal.returns
unfolding sum
returns c = search rules
