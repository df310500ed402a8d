use Rattle.run_model.proofs.Windows.{windows_are_reached}
use Rattle.run_model.proofs.windows_are_reached.Goals as goal

pub returns : goal.returns
returns c = windows_are_reached
