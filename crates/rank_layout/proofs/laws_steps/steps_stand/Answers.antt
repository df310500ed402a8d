use Rattle.rank_layout.proofs.StepsStand.{steps_stand}
use Rattle.rank_layout.proofs.laws_steps.steps_stand.Goals as goal

pub returns : goal.returns
returns c = steps_stand c.items_are_there.ensures.loops c.rank_meshes_are_closed.ensures
