use Rattle.rank_layout.proofs.WindowsStand.{windows_stand, args_stand, args_have_cells}
use Rattle.rank_layout.proofs.laws.windows_stand.Goals as goal

pub returns-clause-stand : goal.returns-clause-stand
returns-clause-stand c = windows_stand c.declarations_hold.ensures.dats c.elements_stand.ensures c.rank_meshes_are_closed.ensures

pub returns-clause-here : goal.returns-clause-here
returns-clause-here c = args_stand c.declarations_hold.ensures.dats c.elements_stand.ensures c.rank_meshes_are_closed.ensures

pub returns-clause-cells : goal.returns-clause-cells
returns-clause-cells c = args_have_cells c.declarations_hold.ensures.dats c.elements_stand.ensures c.rank_meshes_are_closed.ensures
