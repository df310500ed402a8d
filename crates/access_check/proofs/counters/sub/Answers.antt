use Rattle.std.proofs.Common.{rules}
use Rattle.kernel_model.specs.Numbers.{difference}
use Rattle.access_check.proofs.counters.sub.Goals as goal

pub returns : goal.returns
unfolding difference
returns c = search rules
