use Rattle.rank_layout.proofs.MessagesStand.{exports_stand, imports_stand}
use Rattle.rank_layout.proofs.laws.messages_stand.Goals as goal

pub returns-clause-exports : goal.returns-clause-exports
returns-clause-exports c =
    exports_stand c.numbers_are_listed.ensures c.declarations_hold.ensures.dats c.elements_stand.ensures c.messages_have_cells.ensures

pub returns-clause-imports : goal.returns-clause-imports
returns-clause-imports c =
    imports_stand c.numbers_are_listed.ensures c.declarations_hold.ensures.dats c.elements_stand.ensures c.messages_have_cells.ensures
