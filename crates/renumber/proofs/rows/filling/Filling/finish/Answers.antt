use Rattle.std.proofs.Common.{◌≡◌, ℕ, ◌<◌, List, [], length, get_or, drop, arith, ap, sym, ◌∙◌}
use Rattle.renumber.specs.Parts.{FillingValue, parts, rooms, AreEnds}
use Rattle.renumber.proofs.rows.Reading.{length_parts, full}
use Rattle.renumber.proofs.rows.filling.Filling.finish.Goals as goal

finished : (f : FillingValue) (starts ends items : List ℕ)
    → record { rows = parts starts ends items; room = rooms starts (drop 1 starts) } ≡ f → AreEnds starts ends (length items)
    → ((k : ℕ) → k < length f.rows → length (get_or f.rows k []) ≡ get_or f.room k 0) → parts starts (drop 1 starts) items ≡ f.rows
finished f starts ends items e h l =
    let c = h.count in
    let n = length_parts starts ends items (omega (arith, c)) in
    let q : length (parts starts ends items) ≡ length f.rows = ap (λ (z : FillingValue). length z.rows) e in
    let all : ends ≡ drop 1 starts = full starts ends items h (λ k lk.
    let a : length (get_or (parts starts ends items) k []) ≡ length (get_or f.rows k []) = ap (λ (z : FillingValue). length (get_or z.rows k [])) e in
    let b : get_or (rooms starts (drop 1 starts)) k 0 ≡ get_or f.room k 0 = ap (λ (z : FillingValue). get_or z.room k 0) e in
    a ∙ (l k (omega (arith, n, q, lk)) ∙ sym b)) in
    ap (λ (z : List ℕ). parts starts z items) (sym all) ∙ ap (λ (z : FillingValue). z.rows) e

pub returns : goal.returns
returns c =
    let i = c.self.inside in
    finished c.args.self i.starts.items i.ends.items i.items.items c.self.view_is c.self.invariant c.requires
