use Rattle.answers.proofs.laws.Shown.{shown}
use Rattle.answers.proofs.laws.laws.calls_show_their_answers.Goals as goal

pub returns : goal.returns
returns c = shown c.answers_agree.ensures
