use Rattle.checkpoint.proofs.Constants.{runs_keep_constants}
use Rattle.checkpoint.proofs.laws.runs_keep_constants.Goals as goal

pub returns : goal.returns
returns c = runs_keep_constants c.items_are_there.ensures.loops c.loops_keep.ensures.reads
