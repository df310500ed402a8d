use Rattle.step_judge.proofs.marks.Count.{lower_iff}
use Rattle.step_judge.proofs.marks.stages.Stages.lower_done.Goals as goal

pub returns-clause-answer : goal.returns-clause-answer
returns-clause-answer c =
    rw (← c.self.view_is)
    (let found = rw c.deref.ensures.value at c.first_open-here.ensures in
    let reached = rw c.deref-2.ensures.value at c.has_reached.ensures in
    let all = lower_iff c.self.inside.of.items c.self.inside.done.items c.self.inside.left.items c.self.inside.at c.first_open-here.result c.args.stage c.self.invariant found.passed found.open in
    ((λ yes. all.0 (reached.0 yes)), (λ each. reached.1 (all.1 each))))
