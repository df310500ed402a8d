use Rattle.step_judge.proofs.marks.Count.{stage_iff}
use Rattle.step_judge.proofs.marks.stages.Stages.stage_done.Goals as goal

pub returns : goal.returns
returns c =
    rw (← c.self.view_is)
    (let zero = rw c.deref.ensures.value at c.is_zero_at.ensures in
    let none = stage_iff c.self.inside.of.items c.self.inside.done.items c.self.inside.left.items c.self.inside.at c.args.stage c.self.invariant in
    ((λ yes. none.0 (zero.0 yes)), (λ all. zero.1 (none.1 all))))
