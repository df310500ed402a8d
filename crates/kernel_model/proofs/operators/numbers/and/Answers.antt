use Rattle.std.proofs.Common.{refl}
use Rattle.kernel_model.specs.Numbers.{and_bits}
use Rattle.kernel_model.proofs.operators.numbers.and.Goals as goal

pub returns : goal.returns
unfolding and_bits
returns c = refl
