use Rattle.std.proofs.Common.{arith}
use Rattle.std.proofs.lemmas.List.{length_push}
use Rattle.local_mesh.proofs.halo_lists.Exporting.{lengths_more, rows_more}
use Rattle.local_mesh.proofs.halo_lists.exports.empty_exports.Goals as goal

pub loop-owner-preserved : goal.loop-owner-preserved
loop-owner-preserved c =
    let xs = c.loop-owner.exports.items in
    let v = c.in_ok-empty_lists.field-0 in
    rw c.in_ok-push.ensures.items (
      omega (arith, length_push xs v),
      lengths_more xs v c.loop-owner._owner c.args.count c.loop-owner.invariant.0 c.in_ok-empty_lists.ensures.length c.loop-owner.invariant.1,
      rows_more xs v c.loop-owner._owner c.args.count c.loop-owner.invariant.0 c.in_ok-empty_lists.ensures.empty c.loop-owner.invariant.2,
    )
