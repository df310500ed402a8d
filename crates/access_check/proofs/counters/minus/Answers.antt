use Rattle.std.proofs.Common.{rules}
use Rattle.kernel_model.specs.Numbers.{negated}
use Rattle.access_check.proofs.counters.minus.Goals as goal

pub returns : goal.returns
unfolding negated
returns c = search rules
