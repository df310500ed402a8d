use Rattle.rank_layout.proofs.Sending.{exports_are_few}
use Rattle.rank_layout.proofs.laws_sent.exports_are_few.Goals as goal

pub returns : goal.returns
returns c =
    exports_are_few c.numbers_are_listed.ensures c.declarations_hold.ensures.dats c.elements_stand.ensures c.messages_have_cells.ensures
