use Rattle.std.proofs.Common.{refl}
use Rattle.kernel_model.specs.Numbers.{xor_bits}
use Rattle.kernel_model.proofs.operators.numbers.xor.Goals as goal

pub returns : goal.returns
unfolding xor_bits
returns c = refl
