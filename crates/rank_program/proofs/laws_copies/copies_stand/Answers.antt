use Rattle.rank_program.proofs.CopiesStand.{copies_stand}
use Rattle.rank_program.proofs.laws_copies.copies_stand.Goals as goal

pub returns : goal.returns
returns c = copies_stand c.declarations_hold.ensures.dats c.elements_stand.ensures
