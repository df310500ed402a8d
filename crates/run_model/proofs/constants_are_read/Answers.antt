use Rattle.run_model.proofs.Constants.{constants_are_numbered}
use Rattle.run_model.proofs.OnlyRead.{constants_are_read}
use Rattle.run_model.proofs.constants_are_read.Goals as goal

pub returns : goal.returns
returns c = record { numbered = constants_are_numbered; read = constants_are_read }
