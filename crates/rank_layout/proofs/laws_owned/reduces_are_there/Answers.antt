use Rattle.rank_layout.proofs.ReduceItems.{reduces_are_there}
use Rattle.rank_layout.proofs.laws_owned.reduces_are_there.Goals as goal

pub returns : goal.returns
returns c = reduces_are_there c.items_are_there.ensures.loops c.setups_have_parts.ensures
