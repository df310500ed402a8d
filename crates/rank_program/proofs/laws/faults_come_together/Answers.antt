use Rattle.rank_program.proofs.FromNone.{together}
use Rattle.rank_program.proofs.laws.faults_come_together.Goals as goal

pub returns : goal.returns
returns g c = together
