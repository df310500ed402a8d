use Rattle.step_judge.proofs.marks.Runs.{join_wrote}
use Rattle.step_judge.proofs.marks.marks.StepMarks.take_join.Goals as goal

pub invariant_of-self : goal.invariant_of-self
invariant_of-self c =
    let step = rw (← c.self.view_is) at c.requires in
    (join_wrote _ c.self.inside.at.items c.args.item c.index_mut-here.result.now c.join.new.self c.self.invariant step c.index_mut-here.ensures.value c.join.ensures).0

pub returns : goal.returns
returns c =
    let step = rw (← c.self.view_is) at c.requires in
    rw (← c.self.view_is)
    (join_wrote _ c.self.inside.at.items c.args.item c.index_mut-here.result.now c.join.new.self c.self.invariant step c.index_mut-here.ensures.value c.join.ensures).1
