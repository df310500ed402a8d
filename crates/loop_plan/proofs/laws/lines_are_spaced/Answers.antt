use Rattle.loop_plan.proofs.Lines.{line_is_spaced, spaced_append}
use Rattle.loop_plan.proofs.laws.lines_are_spaced.Goals as goal

pub returns-clause-line : goal.returns-clause-line
returns-clause-line c = line_is_spaced

pub returns-clause-append : goal.returns-clause-append
returns-clause-append c = spaced_append
