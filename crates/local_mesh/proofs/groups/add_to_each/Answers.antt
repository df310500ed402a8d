use Rattle.std.proofs.Common.{refl, get_or}
use Rattle.local_mesh.specs.RankSet.{has_at}
use Rattle.local_mesh.proofs.halo_lists.Steps.{name_more}
use Rattle.local_mesh.proofs.groups.add_to_each.Goals as goal

pub loop-element-preserved : goal.loop-element-preserved
unfolding has_at
loop-element-preserved c = λ x r. name_more (has_at c.args.sets.now x r) c.loop-element.sets
    (get_or c.args.elements.now c.loop-element.element-index 0) c.union.result c.args.ranks c.loop-element.element-index
    (λ k. get_or c.args.elements.now k 0) (rw c.loop-element.auto.sets (c.requires c.loop-element.element-index c.loop-element-test.true))
    c.union.ensures refl x r (c.loop-element.invariant x r)
