use Rattle.std.proofs.Common.{◌&&◌, nat_eq}
use Rattle.lemmas.specs.Below.{any_below}
use Rattle.mesh_decl.specs.Mesh.{target, map_dim}
use Rattle.local_mesh.specs.RankSet.{has_at}
use Rattle.local_mesh.proofs.halo_lists.Steps.{any_step}
use Rattle.local_mesh.proofs.halo_lists.named.name_by.Goals as goal

pub loop-element-preserved : goal.loop-element-preserved
unfolding has_at
loop-element-preserved c = λ y r. any_step (has_at c.args.sets.now y r) (has_at c.loop-element.sets y r)
    (has_at c.name_targets.new.sets y r) c.loop-element.element
    (λ x. has_at c.args.ranks.now x r && any_below (map_dim c.args.mesh.now c.args.map)
    (λ i. nat_eq (target c.args.mesh.now c.args.map x i) y)) (c.loop-element.invariant y r) (c.name_targets.ensures y r)
