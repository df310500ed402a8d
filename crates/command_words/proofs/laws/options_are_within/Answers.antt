use Rattle.command_words.proofs.Within.{within}
use Rattle.command_words.proofs.laws.options_are_within.Goals as goal

pub returns : goal.returns
returns c = within
