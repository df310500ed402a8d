use Rattle.std.proofs.Common.{◌≡◌, ◌<◌, length, ◌∙◌, arith}
use Rattle.std.proofs.lemmas.List.{length_push}
use Rattle.local_mesh.proofs.Public.{sets_read}
use Rattle.chain_needs.proofs.chain_slices.Sets.{same_more, same_all}
use Rattle.chain_needs.proofs.chain_slices.copies.copy_sets.Goals as goal

pub loop-list-preserved : goal.loop-list-preserved
loop-list-preserved c =
    let lt : c.loop-list.list-index < length c.args.sets.now = omega arith in
    rw c.in_ok-push.ensures.items (
      omega (arith, length_push c.loop-list.copies.items c.in_ok-from_slice.field-0, c.loop-list.invariant.0),
      same_more c.loop-list.copies.items c.args.sets.now c.in_ok-from_slice.field-0 c.loop-list.list-index c.loop-list.invariant.0
          (c.in_ok-from_slice.ensures.items ∙ (c.deref.ensures.value ∙ sets_read c.args.sets.now c.loop-list.list-index c.list-item.result lt c.list-item.is)) c.loop-list.invariant.1,
    )

pub returns-clause-same : goal.returns-clause-same
returns-clause-same c =
    let e : c.loop-list.list-index ≡ length c.args.sets.now = omega arith in
    same_all c.loop-list.copies.items c.args.sets.now (omega (arith, c.loop-list.invariant.0)) (λ s l. c.loop-list.invariant.1 s (omega arith))
