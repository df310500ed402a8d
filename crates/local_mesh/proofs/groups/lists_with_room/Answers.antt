use Rattle.std.proofs.Common.{arith}
use Rattle.std.proofs.lemmas.List.{length_push}
use Rattle.local_mesh.proofs.rank_sets.Appending.{empty_more}
use Rattle.local_mesh.proofs.groups.lists_with_room.Goals as goal

pub loop-room-preserved : goal.loop-room-preserved
loop-room-preserved c =
    let xs = c.loop-room.lists.items in
    let v = c.in_ok-with_capacity.field-0 in
    rw c.in_ok-push.ensures.items (
      omega (arith, length_push xs v, c.loop-room.invariant.0),
      empty_more xs v c.loop-room.room-index c.loop-room.invariant.0 c.in_ok-with_capacity.ensures.items c.loop-room.invariant.1,
    )
