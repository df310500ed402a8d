use Rattle.partition.proofs.OneBisection as law
use Rattle.partition.proofs.laws.one_bisection.Goals as goal

pub returns : goal.returns
returns c = law.one_bisection
