use Rattle.bound_program.proofs.trace.Renamed.{closed_value}
use Rattle.bound_program.proofs.trace.laws.told_values_are_closed.Goals as goal

pub returns : goal.returns
returns c = closed_value
