use Rattle.rank_layout.proofs.TablesStand.{slots_stand}
use Rattle.rank_layout.proofs.laws_tables.slots_stand.Goals as goal

pub returns : goal.returns
returns c = slots_stand
