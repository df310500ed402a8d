use Rattle.step_judge.proofs.marks.Runs.{begin_wrote}
use Rattle.step_judge.proofs.marks.marks.StepMarks.take_begin.Goals as goal

pub invariant_of-self : goal.invariant_of-self
invariant_of-self c =
    let step = rw (← c.self.view_is) at c.requires.step in
    (begin_wrote _ c.self.inside.at.items c.args.item c.args.rank c.args.place c.index_mut-here.result.now c.begin.new.self c.self.invariant step c.index_mut-here.ensures.value c.begin.ensures).0

pub returns : goal.returns
returns c =
    let step = rw (← c.self.view_is) at c.requires.step in
    rw (← c.self.view_is)
    (begin_wrote _ c.self.inside.at.items c.args.item c.args.rank c.args.place c.index_mut-here.result.now c.begin.new.self c.self.invariant step c.index_mut-here.ensures.value c.begin.ensures).1
