use Rattle.schedule_steps.specs.declared.step.Step.TheVariants.{Join}
use Rattle.step_judge.specs.Kept.{LaidOut}
use Rattle.step_judge.proofs.marks.Ready.{ready}
use Rattle.step_judge.proofs.marks.marks.StepMarks.join_ready.Goals as goal

pub returns-clause-answer : goal.returns-clause-answer
returns-clause-answer c =
    let laid : LaidOut c.args.self.now = rw (← c.self.view_is) c.self.invariant.laid in
    let step = ready c.args.self.now laid (Join c.args.item) c.requires in (
      (λ yes. step.0 ((λ x xl of. c.all_stand.ensures.answer.0 yes x xl), tt)),
      (λ h. c.all_stand.ensures.answer.1 (λ x xl. (step.1 h).0 x xl tt)),
    )
