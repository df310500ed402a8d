use Rattle.rank_layout.proofs.TablesStand.{places_stand}
use Rattle.rank_layout.proofs.laws_tables.places_stand.Goals as goal

pub returns : goal.returns
returns c = places_stand
