use Rattle.answers.proofs.laws.Complete.{complete}
use Rattle.answers.proofs.laws.laws.calls_are_complete.Goals as goal

pub returns : goal.returns
returns c = complete c.answers_agree.ensures
