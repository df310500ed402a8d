use Rattle.schedule_steps.specs.declared.step.Step.TheVariants.{End}
use Rattle.step_judge.specs.Kept.{LaidOut}
use Rattle.step_judge.proofs.marks.Ready.{ready}
use Rattle.step_judge.proofs.marks.marks.StepMarks.mark.Goals as goal

pub take_end-requires-clause-begun : goal.take_end-requires-clause-begun
take_end-requires-clause-begun c =
    let laid : LaidOut c.args.self.now = rw (← c.self.view_is) c.self.invariant.laid in
    let step = rw c.in-End.is at c.requires.step in
    let early = rw c.in-End.is at c.requires.ready in
    ((ready c.args.self.now laid (End c.in-End.item c.in-End.rank c.in-End.place) step).1 early).1
