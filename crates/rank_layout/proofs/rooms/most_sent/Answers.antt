use Rattle.rank_layout.proofs.MostPairs.{sent_more}
use Rattle.rank_layout.proofs.rooms.most_sent.Goals as goal

pub loop-from-preserved : goal.loop-from-preserved
loop-from-preserved c =
    sent_more c.args.mesh.now c.args.lists.now c.args.ranks c.loop-from.from c.loop-from.most c.most_from.result c.max-most.result c.loop-from.invariant
    c.most_from.ensures c.max-most.ensures
