use Rattle.answers.proofs.laws.StateValues.{chosen_starts}
use Rattle.answers.proofs.laws.laws.chosen_programs_start_in_range.Goals as goal

pub returns : goal.returns
returns c = chosen_starts
