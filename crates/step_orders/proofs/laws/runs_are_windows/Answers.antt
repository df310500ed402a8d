use Rattle.step_orders.proofs.Windows.{group_windows}
use Rattle.step_orders.proofs.laws.runs_are_windows.Goals as goal

pub returns : goal.returns
returns c = λ o g k r b c j n pos. group_windows o g k r b c j n pos
