use Rattle.answers.proofs.laws.WordsRefused.{unread}
use Rattle.answers.proofs.laws.laws.unread_files_are_named.Goals as goal

pub returns : goal.returns
returns c = unread
