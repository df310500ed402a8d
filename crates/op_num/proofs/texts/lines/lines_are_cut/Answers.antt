use Rattle.op_num.proofs.texts.Written.{lines_cut}
use Rattle.op_num.proofs.texts.lines.lines_are_cut.Goals as goal

pub returns : goal.returns
returns c = lines_cut
