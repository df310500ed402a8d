use Rattle.op_num.proofs.reductions.Laws.{commuting}
use Rattle.op_num.proofs.reductions.merge.reductions_commute.Goals as goal

pub returns : goal.returns
returns c = commuting
