use Rattle.std.proofs.Common.{◌≡◌, ◌+◌, ◌<◌, ◌≤◌, length, get_or, arith}
use Rattle.std.proofs.lemmas.List.{get_or_read}
use Rattle.step_judge.proofs.marks.Count.{count_room}
use Rattle.step_judge.proofs.marks.stages.counted.Goals as goal

pub overflow_add-index_mut : goal.overflow_add-index_mut
overflow_add-index_mut c =
    let inside : get_or c.args.of.now c.loop-stage.stage-index 0 < length c.loop-stage.left.items = omega (arith, c.requires.below c.loop-stage.stage-index) in
    let got : c.index_mut.result.now ≡ get_or c.loop-stage.left.items (get_or c.args.of.now c.loop-stage.stage-index 0) 0 = get_or_read _ _ _ inside c.index_mut.ensures.value 0 in
    let room : get_or c.loop-stage.left.items (get_or c.args.of.now c.loop-stage.stage-index 0) 0 + 1 ≤ length c.args.of.now =
    count_room c.args.of.now c.loop-stage.stage-index _ c.loop-stage-test.true
    (c.loop-stage.invariant.sum _ (omega (arith, c.requires.below c.loop-stage.stage-index))) in
    omega (arith, c.requires.fits)
