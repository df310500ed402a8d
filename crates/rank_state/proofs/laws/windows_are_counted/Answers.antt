use Rattle.rank_state.proofs.Counted.{windows_counted, owned_counted, element_begun}
use Rattle.rank_state.proofs.laws.windows_are_counted.Goals as goal

pub returns-clause-windows : goal.returns-clause-windows
returns-clause-windows g c = windows_counted

pub returns-clause-owned : goal.returns-clause-owned
returns-clause-owned g c = owned_counted

pub returns-clause-elements : goal.returns-clause-elements
returns-clause-elements g c = element_begun
