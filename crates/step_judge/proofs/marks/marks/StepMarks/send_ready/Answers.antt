use Rattle.std.proofs.Common.{refl, subst}
use Rattle.schedule_steps.specs.declared.step.Step.TheVariants.{Send}
use Rattle.step_judge.specs.Kept.{LaidOut}
use Rattle.step_judge.specs.Marked.{Stands}
use Rattle.step_judge.proofs.marks.Ready.{ready}
use Rattle.step_judge.proofs.marks.marks.StepMarks.send_ready.Goals as goal

pub returns-clause-answer : goal.returns-clause-answer
returns-clause-answer c =
    let laid : LaidOut c.args.self.now = rw (← c.self.view_is) c.self.invariant.laid in
    let step = ready c.args.self.now laid (Send c.args.item c.args.from c.args.to) c.requires in (
      (λ yes. step.0 ((λ x xl of. subst (λ z. Stands c.args.self.now z c.args.item) of (c.stands.ensures.answer.0 yes)), tt)),
      (λ h. c.stands.ensures.answer.1 ((step.1 h).0 c.args.from c.requires.2 refl)),
    )
