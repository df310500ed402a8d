use Rattle.step_judge.proofs.marks.Ends.{all_ended_iff}
use Rattle.step_judge.proofs.marks.places.Places.is_complete.Goals as goal

pub returns-clause-answer : goal.returns-clause-answer
returns-clause-answer c =
    rw (← c.self.view_is)
    (let all = all_ended_iff _ c.self.invariant in
    ((λ yes. all.0 (c.all_done.ensures.answer.0 yes)), (λ each. c.all_done.ensures.answer.1 (all.1 each))))
