use Rattle.std.proofs.Common.{◌<◌, ℕ, List, length, get_or, arith, sym, subst, ◌∙◌}
use Rattle.std.proofs.lemmas.List.{length_push}
use Rattle.lemmas.specs.Below.{row}
use Rattle.lemmas.proofs.Rows.{row_read}
use Rattle.local_mesh.proofs.Growing.{each_row}
use Rattle.local_mesh.specs.Lists.{AreRead}
use Rattle.local_mesh.proofs.lists.read_lists.Goals as goal

pub of_each-requires : goal.of_each-requires
of_each-requires c =
    let e = c.deref.ensures.value ∙ row_read c.args.lists.now c.loop-places.places-index c.places-item.result c.loop-places-test.true c.places-item.is in
    subst (λ (z : List ℕ). (k : ℕ) → k < length z → get_or z k 0 < length c.args.table.now) (sym e) (c.requires c.loop-places.places-index c.loop-places-test.true)

pub loop-places-preserved : goal.loop-places-preserved
loop-places-preserved c =
    let xs = c.loop-places.found.items in
    let e = c.deref.ensures.value ∙ row_read c.args.lists.now c.loop-places.places-index c.places-item.result c.loop-places-test.true c.places-item.is in
    let v = c.in_ok-of_each.field-0 in
    let read : AreRead c.args.table.now (row c.args.lists.now c.loop-places.places-index) v.items =
    subst (λ (z : List ℕ). AreRead c.args.table.now z v.items) e (record { count = c.in_ok-of_each.ensures.length; each = c.in_ok-of_each.ensures.at }) in
    rw c.in_ok-push.ensures.items (
      omega (arith, length_push xs v, c.loop-places.invariant.0),
      each_row xs v c.loop-places.places-index (λ r t. AreRead c.args.table.now (row c.args.lists.now r) t) c.loop-places.invariant.0 c.loop-places.invariant.1 read,
    )
