use Rattle.step_judge.proofs.marks.Count.{all_iff}
use Rattle.step_judge.proofs.marks.stages.Stages.all_done.Goals as goal

pub returns-clause-answer : goal.returns-clause-answer
returns-clause-answer c =
    rw (← c.self.view_is)
    (let found = rw c.deref.ensures.value at c.first_open-here.ensures in
    let past = rw c.deref-2.ensures.value at c.is_past.ensures in
    let all = all_iff c.self.inside.of.items c.self.inside.done.items c.self.inside.left.items c.self.inside.at c.first_open-here.result c.self.invariant found.passed found.open in
    ((λ yes. all.0 (past.0 yes)), (λ each. past.1 (all.1 each))))
