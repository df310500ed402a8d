use Rattle.std.proofs.Common.{◌≡◌, ℕ, ◌++◌, ◌∷◌, [], List, length, map, drop, arith, ap, ◌∙◌}
use Rattle.renumber.specs.Parts.{FillingValue, parts, rooms, AreEnds}
use Rattle.renumber.proofs.rows.Sums.{AreSums, ends_begun, rows_begun, room_begun}
use Rattle.renumber.proofs.rows.filling.Filling.new.Goals as goal

-- the rows end where they start
made : (lengths starts sums ends items : List ℕ) (end n : ℕ) → length starts ≡ n → AreSums (starts ++ end ∷ []) lengths n
    → sums ≡ starts ++ end ∷ [] → ends ≡ starts → length items ≡ end → AreEnds sums ends (length items)
made lengths starts sums ends items end n c h q r s = rw (q, r, s) (ends_begun starts lengths end (rw c h))

abbrev value : List (List ℕ) → List ℕ → FillingValue
value rows room = record { rows = rows; room = room }

-- the rows are empty, and have room for the lengths
begun : (lengths starts sums ends items : List ℕ) (end n : ℕ) → length starts ≡ n → n ≡ length lengths
    → AreSums (starts ++ end ∷ []) lengths n → sums ≡ starts ++ end ∷ [] → ends ≡ starts
    → value (parts sums ends items) (rooms sums (drop 1 sums)) ≡ value (map {A = ℕ} {B = List ℕ} (λ (n : ℕ). []) lengths) lengths
begun lengths starts sums ends items end n c e h q r = rw (q, r) (
    ap (λ (z : List (List ℕ)). value z (rooms (starts ++ end ∷ []) (drop 1 (starts ++ end ∷ [])))) (rows_begun starts lengths items end (c ∙ e))
    ∙ ap (λ (z : List ℕ). value (map {A = ℕ} {B = List ℕ} (λ (n : ℕ). []) lengths) z) (room_begun starts lengths end (c ∙ e) (rw c h)))

pub invariant_of-result : goal.invariant_of-result
invariant_of-result c =
    let inv = c.loop-length.invariant in
    made c.args.lengths.now c.loop-length.starts.items c.push-2.new.self.items c.in_ok-ends.ends.items c.in_ok-items.items.items c.loop-length.end c.loop-length.length-index inv.count inv.sums
    c.in_ok-push-2.ensures.items
    (c.in_ok-ends.ensures.items ∙ c.deref.ensures.value)
    (omega (arith, c.in_ok-items.ensures.len, c.in_ok-items.items.ok.0))

pub returns : goal.returns
returns c =
    let inv = c.loop-length.invariant in
    begun c.args.lengths.now c.loop-length.starts.items c.push-2.new.self.items c.in_ok-ends.ends.items c.in_ok-items.items.items
    c.loop-length.end c.loop-length.length-index inv.count (omega arith) inv.sums
    c.in_ok-push-2.ensures.items
    (c.in_ok-ends.ensures.items ∙ c.deref.ensures.value)
