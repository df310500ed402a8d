use Rattle.answers.proofs.laws.SameKernels.{runs_answer_on_cells}
use Rattle.answers.proofs.laws.laws.runs_answer_on_cells.Goals as goal

pub returns : goal.returns
returns c = runs_answer_on_cells c.runs_are_one.ensures.runs
