use Rattle.answers.proofs.laws.Shown.{silent}
use Rattle.answers.proofs.laws.laws.others_write_nothing.Goals as goal

pub returns : goal.returns
returns c = silent
