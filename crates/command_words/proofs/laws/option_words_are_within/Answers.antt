use Rattle.command_words.proofs.Within.{words_are_within}
use Rattle.command_words.proofs.laws.option_words_are_within.Goals as goal

pub returns : goal.returns
returns c = words_are_within
