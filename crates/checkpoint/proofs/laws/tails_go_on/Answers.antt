use Rattle.checkpoint.proofs.TailRuns.{tails_go_on}
use Rattle.checkpoint.proofs.laws.tails_go_on.Goals as goal

pub returns : goal.returns
returns c =
    tails_go_on c.declarations_hold.ensures.maps c.items_are_there.ensures.loops c.items_are_there.ensures.acts c.constants_are_read.ensures.numbered c.runs_keep_constants.ensures
