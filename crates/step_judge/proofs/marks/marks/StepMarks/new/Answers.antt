use Rattle.std.proofs.Common.{◌≡◌, replicate}
use Rattle.step_judge.proofs.marks.Start.{start}
use Rattle.step_judge.proofs.marks.marks.StepMarks.new.Goals as goal

pub invariant_of-result : goal.invariant_of-result
invariant_of-result c =
    let zeros : c.in_ok-at.at.items ≡ replicate c.args.ranks 0 = c.in_ok-at.ensures.items_if_clones_equal (λ y e. e) in
    rw zeros (start _ c.requires)
