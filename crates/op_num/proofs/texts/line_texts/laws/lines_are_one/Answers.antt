use Rattle.op_num.proofs.texts.line_texts.Cutting.{one_line}
use Rattle.op_num.proofs.texts.line_texts.laws.lines_are_one.Goals as goal

pub returns : goal.returns
returns c = one_line
