use Rattle.rank_state.proofs.Elements.{owner_gathers}
use Rattle.rank_state.proofs.Steps.{variables_are}
use Rattle.rank_state.proofs.laws.owners_show.Goals as goal

pub returns-clause-cells : goal.returns-clause-cells
returns-clause-cells g c = owner_gathers

pub returns-clause-variables : goal.returns-clause-variables
returns-clause-variables g c = variables_are
