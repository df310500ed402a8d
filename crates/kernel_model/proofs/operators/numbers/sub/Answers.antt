use Rattle.std.proofs.Common.{rules}
use Rattle.kernel_model.specs.Numbers.{difference}
use Rattle.kernel_model.proofs.operators.numbers.sub.Goals as goal

pub returns : goal.returns
unfolding difference
returns c = search rules
