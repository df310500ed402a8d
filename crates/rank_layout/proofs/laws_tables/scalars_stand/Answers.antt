use Rattle.rank_layout.proofs.TablesStand.{scalars_stand}
use Rattle.rank_layout.proofs.laws_tables.scalars_stand.Goals as goal

pub returns : goal.returns
returns c = scalars_stand
