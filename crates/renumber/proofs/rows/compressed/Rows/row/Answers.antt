use Rattle.std.proofs.Common.{◌≡◌, ℕ, ◌+◌, ◌-◌, ◌<◌, ◌≤◌, List, [], length, take, drop, get_or, arith, ap, sym, ◌∙◌}
use Rattle.std.proofs.lemmas.List.{get_or_read}
use Rattle.renumber.specs.Parts.{parts, AreStarts}
use Rattle.renumber.proofs.rows.Reading.{length_parts, parts_at, later, length_later}
use Rattle.renumber.proofs.rows.compressed.Rows.row.Goals as goal

-- there is a start behind the row's
within : (value : List (List ℕ)) (starts items : List ℕ) (k : ℕ) → parts starts (drop 1 starts) items ≡ value → k < length value → k + 1 < length starts
within value starts items k e l =
    let n = length_later starts in
    let p = length_parts starts (drop 1 starts) items (omega (arith, n)) in
    let v = ap (length {A = List ℕ}) e in
    omega (arith, n, p, v, l)

-- the row's start and end
bounds : (starts : List ℕ) (size k a b : ℕ) → AreStarts starts size → k + 1 < length starts → a ≡ get_or starts k a
    → b ≡ get_or starts (k + 1) b → (a ≤ b) × (b ≤ size) × (a ≡ get_or starts k 0) × (b ≡ get_or starts (k + 1) 0)
bounds starts size k a b h l ra rb =
    let x : a ≡ get_or starts k 0 = get_or_read starts k a (omega (arith, l)) ra 0 in
    let y : b ≡ get_or starts (k + 1) 0 = get_or_read starts (k + 1) b l rb 0 in
    (omega (arith, h.rise k (k + 1) (omega arith) l), omega (arith, h.within (k + 1) l), x, y)

pub index-requires : goal.index-requires
index-requires c =
    let i = c.self.inside in
    let l = within c.args.self.now i.starts.items i.items.items c.args.place c.self.view_is c.requires in
    omega (arith, l, i.starts.ok.0)

pub overflow_add-place : goal.overflow_add-place
overflow_add-place c =
    let i = c.self.inside in
    let l = within c.args.self.now i.starts.items i.items.items c.args.place c.self.view_is c.requires in
    omega (arith, l, i.starts.ok.0)

pub index-requires-2 : goal.index-requires-2
index-requires-2 c =
    let i = c.self.inside in
    let l = within c.args.self.now i.starts.items i.items.items c.args.place c.self.view_is c.requires in
    omega (arith, l, i.starts.ok.0)

pub offset_bounds-deref-index : goal.offset_bounds-deref-index
offset_bounds-deref-index c =
    let i = c.self.inside in
    let l = within c.args.self.now i.starts.items i.items.items c.args.place c.self.view_is c.requires in
    let b = bounds i.starts.items (length i.items.items) c.args.place c.index.result.now c.index-2.result.now c.self.invariant l c.index.ensures c.index-2.ensures in
    omega (arith, b.0, b.1, i.items.small, i.items.ok.0)

pub slice_bounds-result-count : goal.slice_bounds-result-count
slice_bounds-result-count c =
    let i = c.self.inside in
    let l = within c.args.self.now i.starts.items i.items.items c.args.place c.self.view_is c.requires in
    (bounds i.starts.items (length i.items.items) c.args.place c.index.result.now c.index-2.result.now c.self.invariant l c.index.ensures c.index-2.ensures).0

pub slice_bounds-result-start : goal.slice_bounds-result-start
slice_bounds-result-start c =
    let i = c.self.inside in
    let l = within c.args.self.now i.starts.items i.items.items c.args.place c.self.view_is c.requires in
    let b = bounds i.starts.items (length i.items.items) c.args.place c.index.result.now c.index-2.result.now c.self.invariant l c.index.ensures c.index-2.ensures in
    let e = ap (length {A = ℕ}) c.deref.ensures.value in
    omega (arith, b.0, b.1, e)

pub slice_bounds-result-end : goal.slice_bounds-result-end
slice_bounds-result-end c =
    let i = c.self.inside in
    let l = within c.args.self.now i.starts.items i.items.items c.args.place c.self.view_is c.requires in
    let b = bounds i.starts.items (length i.items.items) c.args.place c.index.result.now c.index-2.result.now c.self.invariant l c.index.ensures c.index-2.ensures in
    let e = ap (length {A = ℕ}) c.deref.ensures.value in
    omega (arith, b.0, b.1, e)

pub returns : goal.returns
returns c =
    let i = c.self.inside in
    let k : ℕ = c.args.place in
    let l = within c.args.self.now i.starts.items i.items.items k c.self.view_is c.requires in
    let b = bounds i.starts.items (length i.items.items) k c.index.result.now c.index-2.result.now c.self.invariant l c.index.ensures c.index-2.ensures in
    let n = length_later i.starts.items in
    let p = parts_at i.starts.items (drop 1 i.starts.items) i.items.items k (omega (arith, l)) (omega (arith, n, l)) in
    let v : get_or (parts i.starts.items (drop 1 i.starts.items) i.items.items) k [] ≡ get_or c.args.self.now k [] = ap (λ (z : List (List ℕ)). get_or z k []) c.self.view_is in
    let e : c.index-2.result.now ≡ get_or (drop 1 i.starts.items) k 0 = b.3 ∙ sym (later i.starts.items k) in
    ap (λ (z : List ℕ). take (c.index-2.result.now - c.index.result.now) (drop c.index.result.now z)) c.deref.ensures.value
    ∙ (ap (λ z. take (z - c.index.result.now) (drop c.index.result.now i.items.items)) e
    ∙ (ap (λ z. take (get_or (drop 1 i.starts.items) k 0 - z) (drop z i.items.items)) b.2
    ∙ (sym p ∙ v)))
