use Rattle.op_num.proofs.texts.line_texts.Cutting.{one_cut}
use Rattle.op_num.proofs.texts.line_texts.laws.words_are_one.Goals as goal

pub returns : goal.returns
returns c = one_cut
