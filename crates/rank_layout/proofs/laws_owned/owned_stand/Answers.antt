use Rattle.rank_layout.proofs.OwnedStand.{owned_stand}
use Rattle.rank_layout.proofs.laws_owned.owned_stand.Goals as goal

pub returns : goal.returns
returns c =
    owned_stand c.declarations_hold.ensures.maps c.declarations_hold.ensures.dats c.elements_stand.ensures c.items_are_there.ensures.loops
    c.frames_have_cells.ensures.dats c.frames_have_cells.ensures.once c.frames_fit.ensures
