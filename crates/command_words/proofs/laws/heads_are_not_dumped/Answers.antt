use Rattle.command_words.proofs.Undumped.{undumped}
use Rattle.command_words.proofs.laws.heads_are_not_dumped.Goals as goal

pub returns : goal.returns
returns c = undumped
