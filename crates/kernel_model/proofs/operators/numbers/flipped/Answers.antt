use Rattle.std.proofs.Common.{refl}
use Rattle.kernel_model.specs.Numbers.{complement}
use Rattle.kernel_model.proofs.operators.numbers.flipped.Goals as goal

pub returns : goal.returns
unfolding complement
returns c = refl
