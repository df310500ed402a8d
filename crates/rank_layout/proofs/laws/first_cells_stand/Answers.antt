use Rattle.rank_layout.proofs.FirstStand.{first_cells_stand, meshes_are_closed}
use Rattle.rank_layout.proofs.laws.first_cells_stand.Goals as goal

pub returns-clause-stand : goal.returns-clause-stand
returns-clause-stand c =
    first_cells_stand c.declarations_hold.ensures.dats c.elements_stand.ensures c.rank_meshes_are_closed.ensures
    c.cells_are_of_copies.ensures c.memory_holds.ensures.first c.variables_hold.ensures.are

pub returns-clause-closed : goal.returns-clause-closed
returns-clause-closed c = meshes_are_closed c.rank_meshes_are_closed.ensures
