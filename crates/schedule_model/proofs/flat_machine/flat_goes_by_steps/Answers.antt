use Rattle.schedule_model.proofs.flat_machine.Followed.{mail_followed, panes_followed}
use Rattle.schedule_model.proofs.flat_machine.flat_goes_by_steps.Goals as goal

pub returns-clause-mail : goal.returns-clause-mail
returns-clause-mail g c = mail_followed

pub returns-clause-frames : goal.returns-clause-frames
returns-clause-frames g c = panes_followed
