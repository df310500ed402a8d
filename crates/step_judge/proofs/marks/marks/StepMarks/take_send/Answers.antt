use Rattle.step_judge.proofs.marks.Marking.{send_wrote}
use Rattle.step_judge.proofs.marks.marks.StepMarks.take_send.Goals as goal

pub invariant_of-self : goal.invariant_of-self
invariant_of-self c =
    let step = rw (← c.self.view_is) at c.requires.step in
    (send_wrote _ c.self.inside.at.items c.args.item c.args.from c.args.to c.find-pair.result c.index_mut-here.result.now c.send.new.self
    c.self.invariant step c.index_mut-here.ensures.value c.find-pair.ensures.paired c.find-pair.ensures.place c.send.ensures).0

pub returns : goal.returns
returns c =
    let step = rw (← c.self.view_is) at c.requires.step in
    rw (← c.self.view_is)
    (send_wrote _ c.self.inside.at.items c.args.item c.args.from c.args.to c.find-pair.result c.index_mut-here.result.now c.send.new.self
    c.self.invariant step c.index_mut-here.ensures.value c.find-pair.ensures.paired c.find-pair.ensures.place c.send.ensures).1
