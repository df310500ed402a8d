use Rattle.std.proofs.Common.{◌≡◌, ◌<◌, ℕ, List, Vec, length, get_or, arith, sym, ap, subst, ◌∙◌}
use Rattle.std.specs.declared.alloc.Global.{Global}
use Rattle.std.proofs.lemmas.List.{length_push}
use Rattle.lemmas.specs.Below.{row, rows}
use Rattle.lemmas.proofs.Rows.{row_read}
use Rattle.local_mesh.specs.Lists.{AreRead}
use Rattle.local_mesh.proofs.Growing.{each_row, rows_read}
use Rattle.local_mesh.proofs.lists.read_imports.Goals as goal

pub index-requires : goal.index-requires
index-requires c =
    let a : ℕ = c.loop-lists.lists-index in
    let e = rows_read c.args.exports.now a c.lists-item.result c.loop-lists-test.true c.lists-item.is in
    let l : c.args.rank < length c.lists-item.result.items = subst (λ (z : List (Vec ℕ Global)). c.args.rank < length z) (sym e) (c.requires.rank a c.loop-lists-test.true) in
    omega (arith, c.lists-item.result.ok.0)

-- the list of the rank, of those that were read
list_is : (exports : List (Vec (Vec ℕ Global) Global)) (a rank : ℕ) (lists : Vec (Vec ℕ Global) Global) (v : Vec ℕ Global) (now : List ℕ)
    → a < length exports → rank < length (rows exports a) → lists ≡ get_or exports a lists → v ≡ get_or lists.items rank v → now ≡ v.items
    → now ≡ row (rows exports a) rank
list_is exports a rank lists v now la lr el ev en =
    let e = rows_read exports a lists la el in
    let l : rank < length lists.items = subst (λ (z : List (Vec ℕ Global)). rank < length z) (sym e) lr in
    en ∙ (row_read lists.items rank v l ev ∙ ap (λ (z : List (Vec ℕ Global)). row z rank) e)

pub locals_of-requires : goal.locals_of-requires
locals_of-requires c =
    let a : ℕ = c.loop-lists.lists-index in
    let e = list_is c.args.exports.now a c.args.rank c.lists-item.result c.index.result.now c.deref.result.now c.loop-lists-test.true
    (c.requires.rank a c.loop-lists-test.true) c.lists-item.is c.index.ensures c.deref.ensures.value in
    subst (λ (z : List ℕ). (k : ℕ) → k < length z → get_or z k 0 < length c.args.table.now) (sym e) (c.requires.within a c.loop-lists-test.true)

pub loop-lists-preserved : goal.loop-lists-preserved
loop-lists-preserved c =
    let a : ℕ = c.loop-lists.lists-index in
    let xs = c.loop-lists.found.items in
    let e = list_is c.args.exports.now a c.args.rank c.lists-item.result c.index.result.now c.deref.result.now c.loop-lists-test.true
    (c.requires.rank a c.loop-lists-test.true) c.lists-item.is c.index.ensures c.deref.ensures.value in
    let v = c.in_ok-locals_of.field-0 in
    let read : AreRead c.args.table.now (row (rows c.args.exports.now a) c.args.rank) v.items =
    subst (λ (z : List ℕ). AreRead c.args.table.now z v.items) e (record { count = c.in_ok-locals_of.ensures.length; each = c.in_ok-locals_of.ensures.at }) in
    rw c.in_ok-push.ensures.items (
      omega (arith, length_push xs v, c.loop-lists.invariant.0),
      each_row xs v a (λ b t. AreRead c.args.table.now (row (rows c.args.exports.now b) c.args.rank) t) c.loop-lists.invariant.0 c.loop-lists.invariant.1 read,
    )
