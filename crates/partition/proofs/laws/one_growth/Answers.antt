use Rattle.partition.proofs.OneGrowth as law
use Rattle.partition.proofs.laws.one_growth.Goals as goal

pub returns : goal.returns
returns c = λ n ranks near a b some h k x l. law.one_growth n ranks near some a b h k x l
