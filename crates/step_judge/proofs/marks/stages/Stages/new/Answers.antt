use Rattle.std.proofs.Common.{◌≡◌, ◌<◌, false, length, get_or, replicate, arith, ap, ◌∙◌}
use Rattle.step_judge.proofs.marks.Count.{new_kept}
use Rattle.step_judge.proofs.marks.stages.Stages.new.Goals as goal

pub invariant_of-result : goal.invariant_of-result
invariant_of-result c =
    let tasks : c.len.result ≡ length c.args.of.items = omega arith in
    let none_done : c.in_ok-done.done.items ≡ replicate (length c.args.of.items) false = c.in_ok-done.ensures.items_if_clones_equal (λ y e. e) ∙ ap (λ n. replicate n false) tasks in
    let counted = rw c.deref.ensures.value at c.in_ok-left.ensures in
    let size : length c.in_ok-left.left.items ≡ c.args.stages = counted.size in
    rw none_done
    (new_kept c.args.of.items c.in_ok-left.left.items c.requires.fits
    (λ t lt. (let b : get_or c.args.of.items t 0 < c.args.stages = c.requires.below t lt in omega arith))
    (λ s lt. counted.counts s (omega arith)))
