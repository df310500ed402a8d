-- Rows read, and pushed to.
use Rattle.std.proofs.Common.{◌≡◌, ◌⊎◌, ℕ, zero, suc, ◌+◌, ◌-◌, ◌<◌, ◌≤◌, List, [], ◌∷◌, ◌++◌, length, take, drop, get_or, set, refl, sym, ap, ◌∙◌, arith, inl, inr, ⊎_elim, subst}
use Rattle.std.proofs.lemmas.Bool.{cases_eq, cases_lt}
use Rattle.std.proofs.lemmas.List.{ext_get_or, length-set, length-drop, length-take-le, get_or-drop, get_or-set_same, get_or-set_other, drop-set-lt, drop-set-add, take-set-le, take_more_set}
use Rattle.renumber.specs.Parts.{parts, rooms, AreStarts, AreEnds}

pub length_parts : (starts ends items : List ℕ) → length ends ≤ length starts → length (parts starts ends items) ≡ length ends
length_parts [] [] items l = refl
length_parts [] (b ∷ ends) items l = absurd (omega arith)
length_parts (a ∷ starts) [] items l = refl
length_parts (a ∷ starts) (b ∷ ends) items l = let h = length_parts starts ends items (omega arith) in omega arith

pub parts_at : (starts ends items : List ℕ) (k : ℕ) → k < length starts → k < length ends
    → get_or (parts starts ends items) k [] ≡ take (get_or ends k 0 - get_or starts k 0) (drop (get_or starts k 0) items)
parts_at [] ends items k ls le = absurd (omega arith)
parts_at (a ∷ starts) [] items k ls le = absurd (omega arith)
parts_at (a ∷ starts) (b ∷ ends) items zero ls le = refl
parts_at (a ∷ starts) (b ∷ ends) items (suc k) ls le = parts_at starts ends items k (omega arith) (omega arith)

pub length_rooms : (starts ends : List ℕ) → length ends ≤ length starts → length (rooms starts ends) ≡ length ends
length_rooms [] [] l = refl
length_rooms [] (b ∷ ends) l = absurd (omega arith)
length_rooms (a ∷ starts) [] l = refl
length_rooms (a ∷ starts) (b ∷ ends) l = let h = length_rooms starts ends (omega arith) in omega arith

pub rooms_at : (starts ends : List ℕ) (k : ℕ) → k < length starts → k < length ends → get_or (rooms starts ends) k 0 ≡ get_or ends k 0 - get_or starts k 0
rooms_at [] ends k ls le = absurd (omega arith)
rooms_at (a ∷ starts) [] k ls le = absurd (omega arith)
rooms_at (a ∷ starts) (b ∷ ends) zero ls le = refl
rooms_at (a ∷ starts) (b ∷ ends) (suc k) ls le = rooms_at starts ends k (omega arith) (omega arith)

-- the starts but the first
pub later : (starts : List ℕ) (k : ℕ) → get_or (drop 1 starts) k 0 ≡ get_or starts (k + 1) 0
later starts k = get_or-drop 1 starts k 0 ∙ ap (λ q. get_or starts q 0) (let e : 1 + k ≡ k + 1 = omega arith in e)

pub length_later : (starts : List ℕ) → length (drop 1 starts) ≡ length starts - 1
length_later starts = length-drop 1 starts

-- a part with one more item
pub part_push : (items : List ℕ) (s e v : ℕ) → s ≤ e → e < length items → take (e + 1 - s) (drop s (set items e v)) ≡ take (e - s) (drop s items) ++ v ∷ []
part_push items s e v le l =
    let at : s + (e - s) ≡ e = omega arith in
    let more : e + 1 - s ≡ e - s + 1 = omega arith in
    let d : drop s (set items e v) ≡ set (drop s items) (e - s) v = subst (λ q. drop s (set items q v) ≡ set (drop s items) (e - s) v) at (drop-set-add s items (e - s) v) in
    let n = length-drop s items in
    ap (λ q. take q (drop s (set items e v))) more ∙ (ap (λ (q : List ℕ). take (e - s + 1) q) d ∙ take_more_set (drop s items) (e - s) v (omega (arith, n, le, l)))

-- a part that another item is no place of
pub part_same : (items : List ℕ) (s b e v : ℕ) → (b ≤ e) ⊎ (e < s) → take (b - s) (drop s (set items e v)) ≡ take (b - s) (drop s items)
part_same items s b e v h = ⊎_elim
    (λ (l : e < s). ap (λ (q : List ℕ). take (b - s) q) (drop-set-lt s items e v l))
    (λ (l : s ≤ e). ⊎_elim
    (λ (m : b ≤ e).
    let at : s + (e - s) ≡ e = omega arith in
    let d : drop s (set items e v) ≡ set (drop s items) (e - s) v = subst (λ q. drop s (set items q v) ≡ set (drop s items) (e - s) v) at (drop-set-add s items (e - s) v) in
    ap (λ (q : List ℕ). take (b - s) q) d ∙ take-set-le (b - s) (drop s items) (e - s) v (omega (arith, m, l)))
    (λ (m : e < s). absurd (omega (arith, l, m)))
    h)
    (cases_lt e s)

-- how long a row is, and how many numbers it has room for
pub row_length : (starts ends items : List ℕ) (k : ℕ) → AreEnds starts ends (length items) → k < length ends → length (get_or (parts starts ends items) k []) ≡ get_or ends k 0 - get_or starts k 0
row_length starts ends items k h l =
    let c = h.count in
    let u = h.upto k l in
    let f = h.from k l in
    let w : get_or starts (k + 1) 0 ≤ length items = h.ordered.within (k + 1) (omega (arith, c, l)) in
    let n = length-drop (get_or starts k 0) items in
    ap (length {A = ℕ}) (parts_at starts ends items k (omega (arith, c, l)) l)
    ∙ length-take-le (get_or ends k 0 - get_or starts k 0) (drop (get_or starts k 0) items) (omega (arith, n, u, w, f))

pub room_is : (starts ends : List ℕ) (size k : ℕ) → AreEnds starts ends size → k < length ends → get_or (rooms starts (drop 1 starts)) k 0 ≡ get_or starts (k + 1) 0 - get_or starts k 0
room_is starts ends size k h l =
    let c = h.count in
    let n = length_later starts in
    rooms_at starts (drop 1 starts) k (omega (arith, c, l)) (omega (arith, n, c, l)) ∙ ap (λ q. q - get_or starts k 0) (later starts k)

-- a row with one more number
pub parts_push : (starts ends items : List ℕ) (k e v : ℕ) → AreEnds starts ends (length items) → k < length ends → e ≡ get_or ends k 0
    → e < get_or starts (k + 1) 0 → parts starts (set ends k (e + 1)) (set items e v) ≡ set (parts starts ends items) k
    (get_or (parts starts ends items) k [] ++ v ∷ [])
parts_push starts ends items k e v h l q room =
    let c = h.count in
    let old = length_parts starts ends items (omega (arith, c)) in
    let le = length-set ends k (e + 1) in
    let new = length_parts starts (set ends k (e + 1)) (set items e v) (omega (arith, c, le)) in
    let whole = length-set (parts starts ends items) k (get_or (parts starts ends items) k [] ++ v ∷ []) in
    ext_get_or [] (parts starts (set ends k (e + 1)) (set items e v)) (set (parts starts ends items) k (get_or (parts starts ends items) k [] ++ v ∷ [])) (omega (arith, old, le, new, whole)) (λ j lj.
    let m : j < length ends = omega (arith, new, le, lj) in
    let ms : j < length starts = omega (arith, c, m) in
    let mo : j < length (set ends k (e + 1)) = omega (arith, le, m) in
    let here = parts_at starts (set ends k (e + 1)) (set items e v) j ms mo in
    let was = parts_at starts ends items j ms m in
    ⊎_elim
    (λ (s : j ≡ k).
    let f : get_or starts j 0 ≤ e = subst (λ z. get_or starts j 0 ≤ z) (ap (λ z. get_or ends z 0) s ∙ sym q) (h.from j m) in
    let w : get_or starts (k + 1) 0 ≤ length items = h.ordered.within (k + 1) (omega (arith, c, l)) in
    let b : get_or (set ends k (e + 1)) j 0 ≡ e + 1 = ap (λ z. get_or (set ends k (e + 1)) z 0) s ∙ get_or-set_same ends k (e + 1) 0 l in
    let o : get_or ends j 0 ≡ e = ap (λ z. get_or ends z 0) s ∙ sym q in
    here ∙ (ap (λ z. take (z - get_or starts j 0) (drop (get_or starts j 0) (set items e v))) b
    ∙ (part_push items (get_or starts j 0) e v f (omega (arith, w, room))
    ∙ (ap (λ z. take (z - get_or starts j 0) (drop (get_or starts j 0) items) ++ v ∷ []) (sym o)
    ∙ (ap (λ (z : List ℕ). z ++ v ∷ []) (sym was ∙ ap (λ z. get_or (parts starts ends items) z []) s)
    ∙ sym (ap (λ z. get_or (set (parts starts ends items) k (get_or (parts starts ends items) k [] ++ v ∷ [])) z []) s
    ∙ get_or-set_same (parts starts ends items) k (get_or (parts starts ends items) k [] ++ v ∷ []) [] (omega (arith, old, l))))))))
    (λ (s : j ≡ k → ⊥).
    let b : get_or (set ends k (e + 1)) j 0 ≡ get_or ends j 0 = get_or-set_other ends k j (e + 1) 0 s in
    let apart : (get_or ends j 0 ≤ e) ⊎ (e < get_or starts j 0) = ⊎_elim
    (λ (a : j < k).
    let u = h.upto j m in
    let r : get_or starts (j + 1) 0 ≤ get_or starts k 0 = h.ordered.rise (j + 1) k (omega (arith, a)) (omega (arith, c, l)) in
    let f = h.from k l in
    inl (omega (arith, u, r, f, q)))
    (λ (a : k ≤ j).
    let r : get_or starts (k + 1) 0 ≤ get_or starts j 0 = h.ordered.rise (k + 1) j (omega (arith, a, s)) ms in
    inr (omega (arith, r, room)))
    (cases_lt j k) in
    here ∙ (ap (λ z. take (z - get_or starts j 0) (drop (get_or starts j 0) (set items e v))) b
    ∙ (part_same items (get_or starts j 0) (get_or ends j 0) e v apart
    ∙ (sym was ∙ sym (get_or-set_other (parts starts ends items) k j (get_or (parts starts ends items) k [] ++ v ∷ []) [] s)))))
    (cases_eq j k))

-- ends after a push
pub ends_push : (starts ends items : List ℕ) (k e v : ℕ) → AreEnds starts ends (length items) → k < length ends → e ≡ get_or ends k 0
    → e < get_or starts (k + 1) 0 → AreEnds starts (set ends k (e + 1)) (length (set items e v))
ends_push starts ends items k e v h l q room =
    let n = length-set items e v in
    let c = length-set ends k (e + 1) in
    record {
      ordered = subst (λ z. AreStarts starts z) (sym n) h.ordered;
      count = omega (arith, c, h.count);
      from = λ j lj. ⊎_elim
          (λ (s : j ≡ k). rw (s, get_or-set_same ends k (e + 1) 0 l) (let f = h.from k l in omega (arith, f, q)))
          (λ (s : j ≡ k → ⊥). rw (get_or-set_other ends k j (e + 1) 0 s) (h.from j (omega (arith, c, lj))))
          (cases_eq j k);
      upto = λ j lj. ⊎_elim
          (λ (s : j ≡ k). rw (s, get_or-set_same ends k (e + 1) 0 l) (omega (arith, room)))
          (λ (s : j ≡ k → ⊥). rw (get_or-set_other ends k j (e + 1) 0 s) (h.upto j (omega (arith, c, lj))))
          (cases_eq j k);
    }

-- rows that are full end where the next start
pub full : (starts ends items : List ℕ) → AreEnds starts ends (length items)
    → ((k : ℕ) → k < length ends → length (get_or (parts starts ends items) k []) ≡ get_or (rooms starts (drop 1 starts)) k 0)
    → ends ≡ drop 1 starts
full starts ends items h f =
    let c = h.count in
    let n = length_later starts in
    ext_get_or 0 ends (drop 1 starts) (omega (arith, c, n)) (λ k l.
    let a = row_length starts ends items k h l in
    let b = room_is starts ends (length items) k h l in
    let e : get_or ends k 0 ≡ get_or starts (k + 1) 0 = omega (arith, f k l, h.from k l, h.upto k l) in
    e ∙ sym (later starts k))
