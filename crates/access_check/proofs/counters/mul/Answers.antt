use Rattle.std.proofs.Common.{rules}
use Rattle.kernel_model.specs.Numbers.{product}
use Rattle.access_check.proofs.counters.mul.Goals as goal

pub returns : goal.returns
unfolding product
returns c = search rules
