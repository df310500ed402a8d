use Rattle.std.proofs.Common.{◌≡◌, ℕ, ◌<◌, ◌≤◌, ◌+◌, ◌++◌, ◌∷◌, List, [], length, get_or, set, drop, arith, ap, ◌∙◌}
use Rattle.std.proofs.lemmas.List.{get_or_read}
use Rattle.renumber.specs.Parts.{FillingValue, parts, rooms, AreEnds}
use Rattle.renumber.proofs.rows.Reading.{length_parts, row_length, room_is, parts_push, ends_push}
use Rattle.renumber.proofs.rows.filling.Filling.push.Goals as goal

-- the place is a row's
within : (f : FillingValue) (starts ends items : List ℕ) (k : ℕ)
    → record { rows = parts starts ends items; room = rooms starts (drop 1 starts) } ≡ f → AreEnds starts ends (length items)
    → k < length f.rows → k < length ends
within f starts ends items k e h l =
    let c = h.count in
    let n = length_parts starts ends items (omega (arith, c)) in
    let q : length (parts starts ends items) ≡ length f.rows = ap (λ (z : FillingValue). length z.rows) e in
    omega (arith, n, q, l)

-- the row has room behind its end
free : (f : FillingValue) (starts ends items : List ℕ) (k : ℕ)
    → record { rows = parts starts ends items; room = rooms starts (drop 1 starts) } ≡ f → AreEnds starts ends (length items)
    → k < length ends → length (get_or f.rows k []) < get_or f.room k 0 → get_or ends k 0 < get_or starts (k + 1) 0
free f starts ends items k e h l r =
    let a = row_length starts ends items k h l in
    let b = room_is starts ends (length items) k h l in
    let q : length (get_or (parts starts ends items) k []) ≡ length (get_or f.rows k []) = ap (λ (z : FillingValue). length (get_or z.rows k [])) e in
    let s : get_or (rooms starts (drop 1 starts)) k 0 ≡ get_or f.room k 0 = ap (λ (z : FillingValue). get_or z.room k 0) e in
    omega (arith, a, b, q, s, r, h.from k l, h.upto k l)

pub index-end-requires : goal.index-end-requires
index-end-requires c =
    let i = c.self.inside in
    let l = within c.args.self.now i.starts.items i.ends.items i.items.items c.args.place c.self.view_is c.self.invariant c.requires.within in
    omega (arith, l, i.ends.ok.0)

-- the row's end, as it is read
end_is : (f : FillingValue) (starts ends items : List ℕ) (k e : ℕ)
    → record { rows = parts starts ends items; room = rooms starts (drop 1 starts) } ≡ f → AreEnds starts ends (length items)
    → k < length f.rows → length (get_or f.rows k []) < get_or f.room k 0 → e ≡ get_or ends k e → (k < length ends) × (e ≡ get_or ends k 0)
    × (e < get_or starts (k + 1) 0) × (e < length items)
end_is f starts ends items k e q h l r read =
    let le = within f starts ends items k q h l in
    let c = h.count in
    let x : e ≡ get_or ends k 0 = get_or_read ends k e le read 0 in
    let u = free f starts ends items k q h le r in
    let w : get_or starts (k + 1) 0 ≤ length items = h.ordered.within (k + 1) (omega (arith, c, le)) in
    (le, x, omega (arith, x, u), omega (arith, x, u, w))

pub index_mut-requires : goal.index_mut-requires
index_mut-requires c =
    let i = c.self.inside in
    let e = end_is c.args.self.now i.starts.items i.ends.items i.items.items c.args.place c.index-end.result.now c.self.view_is
    c.self.invariant c.requires.within c.requires.room c.index-end.ensures in
    omega (arith, e.3, i.items.ok.0)

pub overflow_add-end : goal.overflow_add-end
overflow_add-end c =
    let i = c.self.inside in
    let e = end_is c.args.self.now i.starts.items i.ends.items i.items.items c.args.place c.index-end.result.now c.self.view_is
    c.self.invariant c.requires.within c.requires.room c.index-end.ensures in
    omega (arith, e.3, i.items.small, i.items.ok.0)

pub index_mut-requires-2 : goal.index_mut-requires-2
index_mut-requires-2 c =
    let i = c.self.inside in
    let l = within c.args.self.now i.starts.items i.ends.items i.items.items c.args.place c.self.view_is c.self.invariant c.requires.within in
    omega (arith, l, i.ends.ok.0)

pub invariant_of-self : goal.invariant_of-self
invariant_of-self c =
    let i = c.self.inside in
    let e = end_is c.args.self.now i.starts.items i.ends.items i.items.items c.args.place c.index-end.result.now c.self.view_is
    c.self.invariant c.requires.within c.requires.room c.index-end.ensures in
    ends_push i.starts.items i.ends.items i.items.items c.args.place c.index-end.result.now c.args.number c.self.invariant e.0 e.1 e.2

abbrev value : List (List ℕ) → List ℕ → FillingValue
value rows room = record { rows = rows; room = room }

-- the row has one more number, and the rooms are the same
pushed : (f : FillingValue) (starts ends items : List ℕ) (k e v : ℕ) → value (parts starts ends items) (rooms starts (drop 1 starts)) ≡ f
    → parts starts (set ends k (e + 1)) (set items e v) ≡ set (parts starts ends items) k (get_or (parts starts ends items) k [] ++ v ∷ [])
    → value (parts starts (set ends k (e + 1)) (set items e v)) (rooms starts (drop 1 starts)) ≡ value
    (set f.rows k (get_or f.rows k [] ++ v ∷ [])) f.room
pushed f starts ends items k e v q p =
    ap (λ (z : List (List ℕ)). value z (rooms starts (drop 1 starts))) p ∙ ap (λ (z : FillingValue). value (set z.rows k (get_or z.rows k [] ++ v ∷ [])) z.room) q

pub returns : goal.returns
returns c =
    let i = c.self.inside in
    let e = end_is c.args.self.now i.starts.items i.ends.items i.items.items c.args.place c.index-end.result.now c.self.view_is
    c.self.invariant c.requires.within c.requires.room c.index-end.ensures in
    pushed c.args.self.now i.starts.items i.ends.items i.items.items c.args.place c.index-end.result.now c.args.number c.self.view_is
    (parts_push i.starts.items i.ends.items i.items.items c.args.place c.index-end.result.now c.args.number c.self.invariant e.0 e.1 e.2)
