use Rattle.rank_layout.proofs.TablesStand.{tables_are_indexed}
use Rattle.rank_layout.proofs.laws_tables.tables_are_indexed.Goals as goal

pub returns : goal.returns
returns c = tables_are_indexed c.cells_have_one_index.ensures c.constants_are_read.ensures.numbered
