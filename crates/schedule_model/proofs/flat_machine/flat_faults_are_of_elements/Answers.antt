use Rattle.schedule_model.proofs.flat_machine.Recorded.{of_step, of_run}
use Rattle.schedule_model.proofs.flat_machine.flat_faults_are_of_elements.Goals as goal

pub returns-clause-step : goal.returns-clause-step
returns-clause-step g c = of_step

pub returns-clause-run : goal.returns-clause-run
returns-clause-run g c = of_run
