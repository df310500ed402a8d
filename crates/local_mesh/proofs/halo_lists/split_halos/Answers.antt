use Rattle.std.proofs.Common.{arith}
use Rattle.std.proofs.lemmas.List.{length_push}
use Rattle.local_mesh.specs.Halos.{IsSetHalo}
use Rattle.local_mesh.proofs.halo_lists.EachHalo.{each_more}
use Rattle.local_mesh.proofs.halo_lists.split_halos.Goals as goal

pub loop-set-preserved : goal.loop-set-preserved
loop-set-preserved c =
    let xs = c.loop-set.sets.items in
    let h = c.in_ok-halo_of.field-0 in
    rw c.in_ok-push.ensures.items (
      omega (arith, length_push xs h),
      each_more xs h c.loop-set.set (IsSetHalo c.args.mesh.now c.args.owners.now) c.loop-set.invariant.0 c.in_ok-halo_of.ensures c.loop-set.invariant.1,
    )
