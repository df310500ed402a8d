use Rattle.std.proofs.Common.{arith}
use Rattle.std.proofs.lemmas.List.{length_push}
use Rattle.mesh_decl.specs.Mesh.{set_size}
use Rattle.local_mesh.specs.Halo.{executes}
use Rattle.local_mesh.proofs.halo_lists.SetsReading.{sets_more, sets_has_more}
use Rattle.local_mesh.proofs.halo_lists.executing_sets.Goals as goal

pub loop-set-preserved : goal.loop-set-preserved
loop-set-preserved c =
    let xs = c.loop-set.executing.items in
    let v = c.in_ok-executing_all.field-0 in
    rw c.in_ok-push.ensures.items (
      omega (arith, length_push xs v),
      sets_more xs v c.loop-set.set (set_size c.args.mesh.now) c.loop-set.invariant.0 c.in_ok-executing_all.ensures.length c.loop-set.invariant.1,
      sets_has_more xs v c.loop-set.set (set_size c.args.mesh.now) (executes c.args.mesh.now c.args.owners.now) c.loop-set.invariant.0 c.in_ok-executing_all.ensures.has c.loop-set.invariant.2,
    )
