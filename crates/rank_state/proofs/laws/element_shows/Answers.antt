use Rattle.rank_state.proofs.Elements.{windows_owned, element_leaves}
use Rattle.rank_state.proofs.laws.element_shows.Goals as goal

pub returns-clause-windows : goal.returns-clause-windows
returns-clause-windows g c = windows_owned

pub returns-clause-leaves : goal.returns-clause-leaves
returns-clause-leaves g c p l t q st f h k e spans indices i ws len = element_leaves p l t q st f h c.scatter_is_look_up.ensures k e spans indices i ws len
