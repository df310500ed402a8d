use Rattle.op_num.proofs.texts.line_texts.Cutting.{joined, no_spaces}
use Rattle.op_num.proofs.texts.line_texts.laws.words_are_joined.Goals as goal

pub returns-clause-joined : goal.returns-clause-joined
returns-clause-joined c = joined

pub returns-clause-spaces : goal.returns-clause-spaces
returns-clause-spaces c = no_spaces
