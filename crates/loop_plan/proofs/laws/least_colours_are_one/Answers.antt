use Rattle.loop_plan.proofs.OneColouring.{least_colours_are_one}
use Rattle.loop_plan.proofs.laws.least_colours_are_one.Goals as goal

pub returns : goal.returns
returns c = least_colours_are_one
