use Rattle.loop_plan.specs.Exports.{passes_by_exports}
use Rattle.loop_plan.proofs.Collecting.{senders_more}
use Rattle.loop_plan.proofs.Receiving.{none_passes}
use Rattle.loop_plan.proofs.messages.messages.Goals as goal

pub loop-owner-preserved : goal.loop-owner-preserved
loop-owner-preserved c =
    let g = c.args.mesh.now in
    let h = c.args.halos.now in
    senders_more (passes_by_exports g h c.args.exchange.now) h.ranks c.loop-owner.owner c.loop-owner.pairs.items c.push_messages.new.pairs.items
    c.receivers_for-ranks.result c.requires.exports.few c.receivers_for-ranks.ensures
    (λ r l. none_passes g h c.requires.exports c.is_in_range.ensures.dats c.loop-owner.owner r c.loop-owner-test.true l c.args.exchange.now c.requires.dats)
    c.loop-owner.invariant c.in_ok-push_messages.ensures
