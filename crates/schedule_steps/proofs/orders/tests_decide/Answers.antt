use Rattle.schedule_steps.proofs.Judged.{step_test, earlier_test, takes_test, missing_is, left_is, accepted_test}
use Rattle.schedule_steps.proofs.orders.tests_decide.Goals as goal

pub returns-clause-steps : goal.returns-clause-steps
returns-clause-steps c = step_test

pub returns-clause-earlier : goal.returns-clause-earlier
returns-clause-earlier c = earlier_test

pub returns-clause-takes : goal.returns-clause-takes
returns-clause-takes c = takes_test

pub returns-clause-missing : goal.returns-clause-missing
returns-clause-missing c = missing_is

pub returns-clause-left : goal.returns-clause-left
returns-clause-left c = left_is

pub returns-clause-accepted : goal.returns-clause-accepted
returns-clause-accepted c = accepted_test
