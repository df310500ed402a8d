use Rattle.std.proofs.Common.{ℕ, List, Vec, length, arith, sym, subst, ◌∙◌}
use Rattle.std.specs.declared.alloc.Global.{Global}
use Rattle.std.proofs.lemmas.List.{length_push}
use Rattle.lemmas.specs.Below.{rows}
use Rattle.local_mesh.specs.Lists.{AreAllRead, AreBelow}
use Rattle.local_mesh.proofs.Growing.{each_rows, rows_read}
use Rattle.local_mesh.proofs.lists.read_exports.Goals as goal

pub read_lists-requires : goal.read_lists-requires
read_lists-requires c =
    let a : ℕ = c.loop-lists.lists-index in
    let e = c.deref.ensures.value ∙ rows_read c.args.exports.now a c.lists-item.result c.loop-lists-test.true c.lists-item.is in
    subst (λ (z : List (Vec ℕ Global)). AreBelow (length c.args.table.now) z) (sym e) (c.requires a c.loop-lists-test.true)

pub loop-lists-preserved : goal.loop-lists-preserved
loop-lists-preserved c =
    let a : ℕ = c.loop-lists.lists-index in
    let xs = c.loop-lists.found.items in
    let e = c.deref.ensures.value ∙ rows_read c.args.exports.now a c.lists-item.result c.loop-lists-test.true c.lists-item.is in
    let v = c.in_ok-read_lists.field-0 in
    let read : AreAllRead c.args.table.now (rows c.args.exports.now a) v.items = subst (λ (z : List (Vec ℕ Global)). AreAllRead c.args.table.now z v.items) e c.in_ok-read_lists.ensures in
    rw c.in_ok-push.ensures.items (
      omega (arith, length_push xs v, c.loop-lists.invariant.0),
      each_rows xs v a (λ b t. AreAllRead c.args.table.now (rows c.args.exports.now b) t) c.loop-lists.invariant.0 c.loop-lists.invariant.1 read,
    )
