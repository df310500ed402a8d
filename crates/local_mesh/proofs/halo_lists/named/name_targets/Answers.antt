use Rattle.std.proofs.Common.{arith}
use Rattle.local_mesh.specs.RankSet.{has_at}
use Rattle.mesh_decl.specs.Mesh.{target}
use Rattle.local_mesh.proofs.halo_lists.Steps.{name_more}
use Rattle.local_mesh.proofs.halo_lists.named.name_targets.Goals as goal

pub loop-place-preserved : goal.loop-place-preserved
unfolding has_at
loop-place-preserved c = λ y r. name_more (has_at c.args.sets.now y r) c.loop-place.sets c.target-target.result c.union.result c.args.ranks
    c.loop-place.place (λ i. target c.args.mesh.now c.args.map c.args.element i) (omega (arith, c.target-target.ensures.within))
    c.union.ensures c.target-target.ensures.value y r (c.loop-place.invariant y r)
