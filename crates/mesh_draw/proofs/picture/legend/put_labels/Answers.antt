use Rattle.mesh_draw.proofs.picture.Labels.{label_put}
use Rattle.mesh_draw.proofs.picture.legend.put_labels.Goals as goal

pub loop-above-preserved : goal.loop-above-preserved
loop-above-preserved c =
    label_put c.args.frame c.loop-above.above c.args.labels.now c.index-labels-above.result c.index-labels-above.result c.args.out.now.items
    c.loop-above.out.items c.put_square.new.out.items c.put_caption.new.out.items c.loop-above-test.true c.index-labels-above.is
    c.loop-above.invariant c.in_ok-put_square.ensures c.in_ok-put_caption.ensures
