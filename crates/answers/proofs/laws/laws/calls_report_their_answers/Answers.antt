use Rattle.answers.proofs.laws.Reported.{reported}
use Rattle.answers.proofs.laws.laws.calls_report_their_answers.Goals as goal

pub returns : goal.returns
returns c = reported c.answers_agree.ensures
