use Rattle.rank_layout.proofs.Sending.{sends_stand}
use Rattle.rank_layout.proofs.laws_sent.sends_stand.Goals as goal

pub returns : goal.returns
returns c =
    sends_stand c.numbers_are_listed.ensures c.declarations_hold.ensures.dats c.elements_stand.ensures c.messages_have_cells.ensures
    c.messages_stand.ensures.exports
