use Rattle.std.proofs.Common.{max, ap, ◌∙◌}
use Rattle.rank_layout.specs.SendLaws.{pair_spans}
use Rattle.rank_layout.proofs.MostPairs.{most_more}
use Rattle.rank_layout.proofs.rooms.most_from.Goals as goal

pub loop-to-preserved : goal.loop-to-preserved
loop-to-preserved c =
    most_more (pair_spans c.args.mesh.now c.args.lists.now c.args.from) c.loop-to.to c.loop-to.most c.max-most.result c.loop-to.invariant
    (c.max-most.ensures ∙ ap (λ n. max n c.loop-to.most) c.pair_spans.ensures)
