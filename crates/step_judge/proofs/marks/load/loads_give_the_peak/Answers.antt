use Rattle.step_judge.proofs.marks.Loads.{peak}
use Rattle.step_judge.proofs.marks.load.loads_give_the_peak.Goals as goal

pub returns : goal.returns
returns c = peak
