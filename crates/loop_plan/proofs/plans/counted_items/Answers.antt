use Rattle.loop_plan.proofs.Planning.{sets_had}
use Rattle.loop_plan.proofs.plans.counted_items.Goals as goal

pub number_of_steps-requires-clause-sets : goal.number_of_steps-requires-clause-sets
number_of_steps-requires-clause-sets c = sets_had c.args.bound.now.mesh c.args.halos.now c.args.ranks.now c.requires.ranks c.is_in_range.ensures.sizes
