use Rattle.checkpoint.proofs.state_texts.Names.{names_are_plain}
use Rattle.checkpoint.proofs.state_texts.laws.names_are_plain.Goals as goal

pub returns : goal.returns
returns c = names_are_plain
