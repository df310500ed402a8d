-- What the masks tell of the rows that have colours, and the colour of one row more.
use Rattle.std.proofs.Common.{◌≡◌, ℕ, ◌+◌, ◌*◌, ◌/◌, ◌%◌, ◌<◌, ◌≤◌, min, sym, ap, subst, ◌∙◌, arith, eq-eqb, ⊎_elim, inl, inr, List, length, get_or, set, take, Some}
use Rattle.std.specs.Prelude.{◌↔◌, ◌⊎◌}
use Rattle.std.specs.HashMap.{get}
use Rattle.std.specs.Int.{bit_at}
use Rattle.std.proofs.Math.Dec.{eqb}
use Rattle.std.proofs.Math.Nat.{div-add-mod}
use Rattle.std.proofs.lemmas.Nat.{mod_below}
use Rattle.std.proofs.lemmas.Nat.Bits.{bit_at-zero}
use Rattle.std.proofs.lemmas.Bool.{cases_eq}
use Rattle.std.proofs.lemmas.List.{get_or-set_same, get_or-set_other, get_or-take, length-take-le}
use Rattle.std.proofs.lemmas.List.Folds.{list_any_at}
use Rattle.std.proofs.lemmas.Map.Steps.{le-length_from_below}
use Rattle.colouring.specs.declared.masks.Masks.{Masks}
use Rattle.colouring.specs.Rows.{In, Conflict, Least}
use Rattle.colouring.specs.Masks.{mask_of, same_words, Has, IsSound, IsKept, IsClear, Cover, Tell}
use Rattle.colouring.proofs.Filling.{kept_has, kept_back}

-- a colour is one of a word
parts : (c : ℕ) → 32 * (c / 32) + c % 32 ≡ c
parts c = div-add-mod c 32

part_below : (c : ℕ) → c % 32 < 32
part_below c = mod_below c 32 (omega arith)

-- the places of a row in the table
pub row_bounds : (ts : List ℕ) (w p start stop : ℕ) → start ≡ min (p * w) (length ts) → stop ≡ min (p * w + w) (length ts) → (k : ℕ) → ((start ≤ k) × (k < stop)) ↔ In ts w p k
row_bounds ts w p start stop es et k = (
  (λ (h : (start ≤ k) × (k < stop)). (let a : start ≤ k = h.0 in let b : k < stop = h.1 in (omega arith, omega arith, omega arith))),
  (λ (h : In ts w p k). (let a : p * w ≤ k = h.0 in let b : k < p * w + w = h.1 in let d : k < length ts = h.2 in
      (omega arith, omega arith))),
)

-- what is passed over stays so with more colours
pub sound_more : (m n : Masks) → n.passed ≡ m.passed → ((t v b : ℕ) → b < 32 → Has m t v b → Has n t v b) → IsSound m → IsSound n
sound_more m n e more s x y v z got u le lt b bl = ⊎_elim
    (λ (h : Has m x u b). inl (more x u b bl h))
    (λ (h : Has m y u b). inr (more y u b bl h))
    (s x y v z (subst (λ p. get same_words p (x, y, v) ≡ Some z) e got) u le lt b bl)

-- what is added to the same colours
pub added_kept : (m n o : Masks) (X : ℕ → ℕ → ℕ → Type 0) → IsKept m n → ((t v b : ℕ) → b < 32 → Has o t v b ↔ (Has n t v b ⊎ X t v b)) → (t v b : ℕ) → b < 32 → Has o t v b ↔ (Has m t v b ⊎ X t v b)
added_kept m n o X k a t v b bl = (
  (λ h. ⊎_elim (λ (g : Has n t v b). inl (kept_has m n k t v b g)) (λ (g : X t v b). inr g) ((a t v b bl).0 h)),
  (λ h. (a t v b bl).1 (⊎_elim (λ (g : Has m t v b). inl (kept_back m n k t v b g)) (λ (g : X t v b). inr g) h)),
)

-- masks without a colour tell of no rows
pub clear_tell : (ts : List ℕ) (w : ℕ) (cs : List ℕ) (m : Masks) → IsClear m → Tell ts w cs 0 m
clear_tell ts w cs m z t v b tl bl = (
  (λ h. absurd (let e : bit_at (mask_of m t v) b ≡ bit_at 0 b = ap (λ y. bit_at y b) (z.words t v) in let f : bit_at 0 b ≡ 0 = bit_at-zero b in omega arith)),
  (λ (g : (q : ℕ) × (k : ℕ) × (q < 0) × In ts w q k × (get_or ts k 0 ≡ t) × (get_or cs q 0 ≡ 32 * v + b)). absurd (let l : g.0 < 0 = g.2 in omega arith)),
)

-- the least colour of a row stays so while the colours up to it do
pub least_row : (ts : List ℕ) (w : ℕ) (old now : List ℕ) (p : ℕ) → ((q : ℕ) → q ≤ p → get_or now q 0 ≡ get_or old q 0) → Least ts w old p → Least ts w now p
least_row ts w old now p same l = (
  (λ q lt x e. l.0 q lt x (sym (same q (omega arith)) ∙ (e ∙ same p (omega arith)))),
  (λ c lt. (let t : (q : ℕ) × (q < p) × Conflict ts w q p × (get_or old q 0 ≡ c) =
      l.1 c (let e : get_or now p 0 ≡ get_or old p 0 = same p (omega arith) in omega arith) in let tl : t.0 < p = t.1 in
      (t.0, t.1, t.2, same t.0 (omega arith) ∙ t.3))),
)

module _ (ts : List ℕ) (w : ℕ) (cs : List ℕ) (p : ℕ) (inside : p < length cs) (m : Masks) (told : Tell ts w cs p m) (start stop : ℕ)
    (bounds : (k : ℕ) → ((start ≤ k) × (k < stop)) ↔ In ts w p k) (targets : (k : ℕ) → k < length ts → get_or ts k 0 < length m.first.items)
  where
    in_word : (k : ℕ) → In ts w p k → get_or ts k 0 < length m.first.items
    in_word k i = targets k i.2

    -- a colour that the row's targets have is one of an earlier row
    earlier : (v b : ℕ) → b < 32 → (k : ℕ) → start ≤ k → k < stop → Has m (get_or ts k 0) v b → (q : ℕ) × (q < p) × Conflict ts w q p × (get_or cs q 0 ≡ 32 * v + b)
    earlier v b bl k lo hi h =
        let i : In ts w p k = (bounds k).0 (lo, hi) in
        let g : (q : ℕ) × (j : ℕ) × (q < p) × In ts w q j × (get_or ts j 0 ≡ get_or ts k 0) × (get_or cs q 0 ≡ 32 * v + b) = (told (get_or ts k 0) v b (in_word k i) bl).0 h in
        (g.0, g.2, (g.1, k, g.3, i, g.4), g.5)

    -- each colour that they have together
    pub covered : (n : ℕ) → Cover m ts start stop n → (c : ℕ) → c < n → (q : ℕ) × (q < p) × Conflict ts w q p × (get_or cs q 0 ≡ c)
    covered n all c lt =
        let e : 32 * (c / 32) + c % 32 ≡ c = parts c in
        let k = all (c / 32) (c % 32) (part_below c) (omega arith) in
        let g = earlier (c / 32) (c % 32) (part_below c) k.0 k.1 k.2 k.3 in
        (g.0, g.1, g.2, g.3 ∙ e)

    -- so they have no more of the least colours than there are earlier rows
    pub most : (n : ℕ) → Cover m ts start stop n → n ≤ p
    most n all = subst (λ z. n ≤ z) (length-take-le p cs (omega arith)) (le-length_from_below (take p cs) n (λ c lt.
        let g : (q : ℕ) × (q < p) × Conflict ts w q p × (get_or cs q 0 ≡ c) = covered n all c lt in
        let gl : g.0 < p = g.1 in
        let count : length (take p cs) ≡ p = length-take-le p cs (omega arith) in
        list_any_at (eqb c) (take p cs) g.0 0 (omega arith) (eq-eqb c (get_or (take p cs) g.0 0) (sym (get_or-take p cs g.0 0 gl ∙ g.3)))))

    module _ (c : ℕ) (below : Cover m ts start stop c) (free : (k v b : ℕ) → start ≤ k → k < stop → b < 32 → 32 * v + b ≡ c → Has m (get_or ts k 0) v b → ⊥) where
      abbrev new : List ℕ
      new = set cs p c

      at_p : get_or new p 0 ≡ c
      at_p = get_or-set_same cs p c 0 inside

      at_other : (q : ℕ) → (q ≡ p → ⊥) → get_or new q 0 ≡ get_or cs q 0
      at_other q ne = get_or-set_other cs p q c 0 ne

      pub row_least : Least ts w new p
      row_least = (
        (λ q lt x e.
            let j = x.0 in
            let k = x.1 in
            let r = (bounds k).1 x.3 in
            let qc : get_or cs q 0 ≡ c = sym (at_other q (λ f. omega arith)) ∙ (e ∙ at_p) in
            free k (c / 32) (c % 32) r.0 r.1 (part_below c) (parts c) ((told (get_or ts k 0) (c / 32) (c % 32) (in_word k x.3) (part_below c)).1 (q, j, lt, x.2, x.4, qc ∙ sym (parts c)))),
        (λ d lt.
            let g : (q : ℕ) × (q < p) × Conflict ts w q p × (get_or cs q 0 ≡ d) = covered c below d (let e : get_or new p 0 ≡ c = at_p in omega arith) in
            let gl : g.0 < p = g.1 in
            (g.0, g.1, g.2, at_other g.0 (λ f. omega arith) ∙ g.3)),
      )

      -- with the row's colour the masks tell of it too
      pub row_told : (n : Masks) → length n.first.items ≡ length m.first.items
          → ((t v b : ℕ) → b < 32 → Has n t v b ↔
          (Has m t v b ⊎ ((32 * v + b ≡ c) × ((k : ℕ) × (start ≤ k) × (k < stop) × (get_or ts k 0 ≡ t))))) → Tell ts w new (p + 1) n
      row_told n count added t v b tl bl = (
        (λ h. ⊎_elim
            (λ (o : Has m t v b).
            let g : (q : ℕ) × (k : ℕ) × (q < p) × In ts w q k × (get_or ts k 0 ≡ t) × (get_or cs q 0 ≡ 32 * v + b) = (told t v b here bl).0 o in
            let l : g.0 < p = g.2 in
            (g.0, g.1, omega arith, g.3, g.4, at_other g.0 (λ f. omega arith) ∙ g.5))
            (λ (o : (32 * v + b ≡ c) × ((k : ℕ) × (start ≤ k) × (k < stop) × (get_or ts k 0 ≡ t))). (p, o.1.0, omega arith, (bounds o.1.0).0 (o.1.1, o.1.2), o.1.3, at_p ∙ sym o.0))
            ((added t v b bl).0 h)),
        (λ (g : (q : ℕ) × (k : ℕ) × (q < p + 1) × In ts w q k × (get_or ts k 0 ≡ t) × (get_or new q 0 ≡ 32 * v + b)). (added t v b bl).1 (⊎_elim
            (λ (e : g.0 ≡ p).
            let r : (start ≤ g.1) × (g.1 < stop) = (bounds g.1).1 (subst (λ z. In ts w z g.1) e g.3) in
            inr (sym g.5 ∙ (ap (λ z. get_or new z 0) e ∙ at_p), (g.1, r.0, r.1, g.4)))
            (λ (ne : g.0 ≡ p → ⊥). inl ((told t v b here bl).1 (g.0, g.1, (let l : g.0 < p + 1 = g.2 in omega arith), g.3, g.4, sym (at_other g.0 ne) ∙ g.5)))
            (cases_eq g.0 p))),
      )
        where
          here : t < length m.first.items
          here = subst (λ z. t < z) count tl
