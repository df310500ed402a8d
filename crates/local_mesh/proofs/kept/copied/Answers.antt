use Rattle.std.proofs.Common.{◌≡◌, arith, ◌∙◌}
use Rattle.std.proofs.lemmas.List.{length_push}
use Rattle.lemmas.specs.Below.{row}
use Rattle.lemmas.proofs.Rows.{row_read}
use Rattle.local_mesh.proofs.Growing.{each_row}
use Rattle.local_mesh.proofs.kept.copied.Goals as goal

pub loop-list-preserved : goal.loop-list-preserved
loop-list-preserved c =
    let xs = c.loop-list.copies.items in
    let i = c.loop-list.list-index in
    let lists = c.args.lists.now in
    let v = c.in_ok-from_slice.field-0 in
    let same : c.in_ok-from_slice.field-0.items ≡ row c.args.lists.now c.loop-list.list-index =
    c.in_ok-from_slice.ensures.items ∙ (c.deref.ensures.value ∙ row_read lists i c.list-item.result c.loop-list-test.true c.list-item.is) in
    rw c.in_ok-push.ensures.items (
      omega (arith, length_push xs v, c.loop-list.invariant.0),
      each_row xs v i (λ r t. t ≡ row lists r) c.loop-list.invariant.0 c.loop-list.invariant.1 same,
    )
