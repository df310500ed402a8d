use Rattle.std.proofs.Common.{refl, sym, ◌∙◌, subst}
use Rattle.schedule_steps.specs.declared.step.Step.TheVariants.{Recv}
use Rattle.step_judge.specs.Kept.{LaidOut}
use Rattle.step_judge.specs.Marked.{Stands}
use Rattle.step_judge.proofs.marks.Ready.{ready}
use Rattle.step_judge.proofs.marks.marks.StepMarks.recv_ready.Goals as goal

pub returns-clause-answer : goal.returns-clause-answer
returns-clause-answer c =
    let laid : LaidOut c.args.self.now = rw (← c.self.view_is) c.self.invariant.laid in
    let step = ready c.args.self.now laid (Recv c.args.item c.args.rank c.args.from) c.requires in (
      (λ yes. step.0 (
        (λ x xl of. subst (λ z. Stands c.args.self.now z c.args.item) of
            (c.stands-stands.ensures.answer.0 (c.both.ensures.0 yes).0)),
        sym c.is_sent-sent.ensures ∙ (c.both.ensures.0 yes).1,
      )),
      (λ h. c.both.ensures.1 (c.stands-stands.ensures.answer.1 ((step.1 h).0 c.args.rank c.requires.3 refl), c.is_sent-sent.ensures ∙ (step.1 h).1)),
    )
