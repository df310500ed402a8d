use Rattle.answers.proofs.laws.WordsRefused.{usage}
use Rattle.answers.proofs.laws.laws.usage_is_of_words.Goals as goal

pub returns : goal.returns
returns c = usage
