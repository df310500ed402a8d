use Rattle.std.proofs.Common.{refl}
use Rattle.kernel_model.specs.Numbers.{or_bits}
use Rattle.kernel_model.proofs.operators.numbers.or.Goals as goal

pub returns : goal.returns
unfolding or_bits
returns c = refl
