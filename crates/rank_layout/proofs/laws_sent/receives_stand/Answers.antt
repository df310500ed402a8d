use Rattle.rank_layout.proofs.Sending.{receives_stand}
use Rattle.rank_layout.proofs.laws_sent.receives_stand.Goals as goal

pub returns : goal.returns
returns c =
    receives_stand c.numbers_are_listed.ensures c.declarations_hold.ensures.dats c.elements_stand.ensures c.messages_have_cells.ensures
    c.messages_stand.ensures.imports
