use Rattle.step_judge.proofs.marks.Pairs.{sent_iff}
use Rattle.step_judge.proofs.marks.items.ItemMarks.all_sent.Goals as goal

pub returns : goal.returns
returns c =
    rw (← c.self.view_is)
    (let all = sent_iff _ c.args.rank c.self.invariant.0 in
    ((λ yes. all.0 (c.stage_done.ensures.0 yes)), (λ each. c.stage_done.ensures.1 (all.1 each))))
