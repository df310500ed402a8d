-- Starts that are sums of lengths.
use Rattle.std.proofs.Common.{◌≡◌, ℕ, zero, suc, ◌+◌, ◌-◌, ◌<◌, ◌≤◌, List, [], ◌∷◌, ◌++◌, length, map, take, drop, get_or, refl, sym, ap, ◌∙◌, arith, ⊎_elim}
use Rattle.std.proofs.lemmas.Bool.{cases_eq}
use Rattle.std.proofs.lemmas.List.{ext_get_or, length_push, length-map, get_or_push, get_or_append_left}
use Rattle.renumber.specs.Parts.{parts, rooms, AreEnds}
use Rattle.renumber.proofs.rows.Reading.{length_parts, parts_at, length_rooms, rooms_at, later, length_later}

-- each start is the one before and a length
abbrev pub AreSums : List ℕ → List ℕ → ℕ → Type 0
AreSums sums lengths n = (k : ℕ) → k < n → get_or sums k 0 + get_or lengths k 0 ≡ get_or sums (k + 1) 0

pub sums_rise : (sums lengths : List ℕ) (n : ℕ) → AreSums sums lengths n → (i j : ℕ) → i ≤ j → j ≤ n → get_or sums i 0 ≤ get_or sums j 0
sums_rise sums lengths n h i zero le l = let e : i ≡ 0 = omega arith in rw e (omega arith)
sums_rise sums lengths n h i (suc j) le l = ⊎_elim
    (λ (e : i ≡ suc j). rw e (omega arith))
    (λ (e : i ≡ suc j → ⊥).
    let r = sums_rise sums lengths n h i j (omega arith) (omega arith) in
    let s : get_or sums j 0 + get_or lengths j 0 ≡ get_or sums (j + 1) 0 = h j (omega arith) in
    let t : get_or sums (j + 1) 0 ≡ get_or sums (suc j) 0 = ap (λ q. get_or sums q 0) (let e : j + 1 ≡ suc j = omega arith in e) in
    omega (arith, r, s, t))
    (cases_eq i (suc j))

-- rows without numbers end where they start
pub ends_begun : (starts lengths : List ℕ) (end : ℕ) → AreSums (starts ++ end ∷ []) lengths (length starts) → AreEnds (starts ++ end ∷ []) starts end
ends_begun starts lengths end h =
    let p = length_push starts end in
    let last : get_or (starts ++ end ∷ []) (length starts) 0 ≡ end = get_or_push starts end 0 (length starts) refl in
    record {
      ordered = record {
        some = omega (arith, p);
        rise = λ i j le l. sums_rise (starts ++ end ∷ []) lengths (length starts) h i j le (omega (arith, p, l));
        within = λ i l. (let r = sums_rise (starts ++ end ∷ []) lengths (length starts) h i (length starts) (omega (arith, p, l)) (omega arith) in omega (arith, r, last));
      };
      count = sym p;
      from = λ k l. (let e = get_or_append_left starts (end ∷ []) 0 k l in omega (arith, e));
      upto = λ k l. (
          let e = get_or_append_left starts (end ∷ []) 0 k l in
          let s = h k l in
          omega (arith, e, s));
    }

empty_at : (lengths : List ℕ) (k : ℕ) → get_or (map {A = ℕ} {B = List ℕ} (λ (n : ℕ). []) lengths) k [] ≡ []
empty_at [] k = refl
empty_at (n ∷ lengths) zero = refl
empty_at (n ∷ lengths) (suc k) = empty_at lengths k

pub rows_begun : (starts lengths items : List ℕ) (end : ℕ) → length starts ≡ length lengths → parts (starts ++ end ∷ []) starts items ≡ map (λ (n : ℕ). []) lengths
rows_begun starts lengths items end e =
    let p = length_push starts end in
    let n = length_parts (starts ++ end ∷ []) starts items (omega (arith, p)) in
    let m = length-map {A = ℕ} {B = List ℕ} lengths (λ (n : ℕ). []) in
    ext_get_or [] (parts (starts ++ end ∷ []) starts items) (map (λ (n : ℕ). []) lengths) (omega (arith, n, m, e)) (λ k l.
    let lk : k < length starts = omega (arith, n, l) in
    let same = get_or_append_left starts (end ∷ []) 0 k lk in
    let z : get_or starts k 0 - get_or (starts ++ end ∷ []) k 0 ≡ 0 = omega (arith, same) in
    parts_at (starts ++ end ∷ []) starts items k (omega (arith, p, lk)) lk
    ∙ (ap (λ q. take q (drop (get_or (starts ++ end ∷ []) k 0) items)) z ∙ sym (empty_at lengths k)))

pub room_begun : (starts lengths : List ℕ) (end : ℕ) → length starts ≡ length lengths → AreSums (starts ++ end ∷ []) lengths (length starts)
    → rooms (starts ++ end ∷ []) (drop 1 (starts ++ end ∷ [])) ≡ lengths
room_begun starts lengths end e h =
    let sums : List ℕ = starts ++ end ∷ [] in
    let p = length_push starts end in
    let d = length_later sums in
    let n = length_rooms sums (drop 1 sums) (omega (arith, d)) in
    ext_get_or 0 (rooms sums (drop 1 sums)) lengths (omega (arith, n, d, p, e)) (λ k l.
    let lk : k < length starts = omega (arith, n, d, p, l) in
    let s = h k lk in
    let a = rooms_at sums (drop 1 sums) k (omega (arith, p, lk)) (omega (arith, d, p, lk)) in
    let b = later sums k in
    omega (arith, s, a, b))
