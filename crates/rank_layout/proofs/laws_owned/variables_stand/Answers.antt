use Rattle.rank_layout.proofs.VariableCells.{variables_stand}
use Rattle.rank_layout.proofs.laws_owned.variables_stand.Goals as goal

pub returns : goal.returns
returns c = variables_stand
