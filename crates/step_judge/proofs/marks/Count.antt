use Rattle.std.proofs.Common.{◌≡◌, ℕ, zero, suc, ◌+◌, ◌-◌, ◌<◌, ◌≤◌, ◌^◌, Bool, true, false, cond, refl, sym, ap, subst, ◌∙◌, arith, ⊎_elim, inl, inr, List, [], ◌∷◌, length, get_or, set, replicate, drop}
use Rattle.std.specs.Prelude.{◌&&◌, ◌==◌, ◌↔◌, ◌⊎◌, not}
use Rattle.std.proofs.lemmas.Bool.{eq-eqb, ne_eqb, cases_Bool, cases_eq, cases_lt, false≢true, and_right, and_left}
use Rattle.std.proofs.lemmas.List.{get_or-set_same, get_or-set_other, length-set, drop_more, get_or_past, get_or_read, length-replicate}
use Rattle.step_judge.specs.Counts.{open_in, count_of, Kept}

abbrev weight : ℕ → Bool → ℕ → ℕ
weight k d c = cond ((k == c) && not d) 1 0

weight_one : (k c : ℕ) → k ≡ c → weight k false c ≡ 1
weight_one k c e = ap (λ b. cond (b && true) 1 0) (eq-eqb k c e)

abbrev one : Bool → ℕ
one b = cond b 1 0

one_same : (k c : ℕ) → k ≡ c → one (k == c) ≡ 1
one_same k c e = ap one (eq-eqb k c e)

one_other : (k c : ℕ) → (k ≡ c → ⊥) → one (k == c) ≡ 0
one_other k c ne = ap one (ne_eqb k c ne)

-- none is left: each task of the stage is done
pub open_zero : (ks : List ℕ) (ds : List Bool) (c : ℕ) → length ds ≡ length ks → open_in ks ds c ≡ 0 → (t : ℕ) → t < length ks → get_or ks t 0 ≡ c → get_or ds t false ≡ true
open_zero [] ds c n h t lt e = absurd (omega arith)
open_zero (k ∷ ks) [] c n h t lt e = absurd (omega arith)
open_zero (k ∷ ks) (true ∷ ds) c n h zero lt e = refl
open_zero (k ∷ ks) (false ∷ ds) c n h zero lt e = absurd (let w : weight k false c ≡ 1 = weight_one k c e in omega arith)
open_zero (k ∷ ks) (d ∷ ds) c n h (suc t) lt e = open_zero ks ds c (omega arith) (omega arith) t (omega arith) e

pub open_none : (ks : List ℕ) (ds : List Bool) (c : ℕ) → ((t : ℕ) → t < length ks → get_or ks t 0 ≡ c → get_or ds t false ≡ true) → open_in ks ds c ≡ 0
open_none [] ds c h = refl
open_none (k ∷ ks) [] c h = refl
open_none (k ∷ ks) (d ∷ ds) c h =
    let rest : open_in ks ds c ≡ 0 = open_none ks ds c (λ t lt e. h (suc t) (omega arith) e) in
    let here : weight k d c ≡ 0 = ⊎_elim
    (λ (e : k ≡ c). ap (λ x. cond ((k == c) && not x) 1 0) (h zero (omega arith) e) ∙ ap (λ x. cond x 1 0) (and_right (k == c) false refl))
    (λ (ne : k ≡ c → ⊥). ap (λ x. cond x 1 0) (and_left (k == c) (not d) (ne_eqb k c ne)))
    (cases_eq k c) in
    omega arith

-- a task is done: one less of its stage is left
pub open_mark : (ks : List ℕ) (ds : List Bool) (t c : ℕ) → length ds ≡ length ks → t < length ks → get_or ds t false ≡ false → open_in ks (set ds t true) c + one (get_or ks t 0 == c) ≡ open_in ks ds c
open_mark [] ds t c n lt h = absurd (omega arith)
open_mark (k ∷ ks) [] t c n lt h = absurd (omega arith)
open_mark (k ∷ ks) (true ∷ ds) zero c n lt h = absurd (false≢true (sym h))
open_mark (k ∷ ks) (false ∷ ds) zero c n lt h = ⊎_elim
    (λ (e : (k == c) ≡ true). rw e (omega arith))
    (λ (e : (k == c) ≡ false). rw e (omega arith))
    (cases_Bool (k == c))
open_mark (k ∷ ks) (d ∷ ds) (suc t) c n lt h = let ih : open_in ks (set ds t true) c + one (get_or ks t 0 == c) ≡ open_in ks ds c = open_mark ks ds t c (omega arith) (omega arith) h in omega arith

pub open_mark_same : (ks : List ℕ) (ds : List Bool) (t c : ℕ) → length ds ≡ length ks → t < length ks → get_or ds t false ≡ false
    → get_or ks t 0 ≡ c → open_in ks (set ds t true) c + 1 ≡ open_in ks ds c
open_mark_same ks ds t c n lt h same = let e : one (get_or ks t 0 == c) ≡ 1 = one_same (get_or ks t 0) c same in omega (arith, open_mark ks ds t c n lt h, e)

pub open_fresh : (ks : List ℕ) (c : ℕ) → open_in ks (replicate (length ks) false) c ≡ count_of ks c
open_fresh [] c = refl
open_fresh (k ∷ ks) c = let ih : open_in ks (replicate (length ks) false) c ≡ count_of ks c = open_fresh ks c in ⊎_elim
    (λ (e : (k == c) ≡ true). rw e (omega arith))
    (λ (e : (k == c) ≡ false). rw e (omega arith))
    (cases_Bool (k == c))

pub count_bound : (ks : List ℕ) (c : ℕ) → count_of ks c ≤ length ks
count_bound [] c = omega arith
count_bound (k ∷ ks) c = let ih : count_of ks c ≤ length ks = count_bound ks c in ⊎_elim
    (λ (e : (k == c) ≡ true). rw e (omega arith))
    (λ (e : (k == c) ≡ false). rw e (omega arith))
    (cases_Bool (k == c))

pub count_room : (ks : List ℕ) (i v : ℕ) → i < length ks → v + count_of (drop i ks) (get_or ks i 0) ≡ count_of ks (get_or ks i 0) → v + 1 ≤ length ks
count_room ks i v lt h =
    let step : count_of (drop i ks) (get_or ks i 0) ≡ one (get_or ks i 0 == get_or ks i 0) + count_of (drop (i + 1) ks) (get_or ks i 0) = ap (λ z. count_of z (get_or ks i 0)) (drop_more ks i 0 lt) in
    let weighs : one (get_or ks i 0 == get_or ks i 0) ≡ 1 = one_same (get_or ks i 0) (get_or ks i 0) refl in
    omega (arith, count_bound ks (get_or ks i 0))

-- what a mark leaves of the counters
pub mark_kept : (of : List ℕ) (done : List Bool) (left : List ℕ) (at t : ℕ) → Kept of done left at → t < length of
    → get_or done t false ≡ false → Kept of (set done t true) (set left (get_or of t 0) (get_or left (get_or of t 0) 0 - 1)) at
mark_kept of done left at t k lt h =
    let n : length done ≡ length of = k.size in
    let nl : length (set left (get_or of t 0) (get_or left (get_or of t 0) 0 - 1)) ≡ length left = length-set left (get_or of t 0) (get_or left (get_or of t 0) 0 - 1) in
    let w : at ≤ length left = k.within in
    let in_left : get_or of t 0 < length left = k.stages t lt in
    record {
      size = length-set done t true ∙ n;
      fits = k.fits;
      stages = λ i il. (let s : get_or of i 0 < length left = k.stages i il in omega arith);
      counts = λ c cl. count_at c (omega arith);
      within = omega arith;
      passed = λ c cl. passed_at c cl;
    }
  where
    value : (c : ℕ) → c < length left → get_or (set left (get_or of t 0) (get_or left (get_or of t 0) 0 - 1)) c 0 ≡ get_or left c 0 - one (get_or of t 0 == c)
    value c cl = ⊎_elim
        (λ (e : get_or of t 0 ≡ c).
        let weighs : one (get_or of t 0 == c) ≡ 1 = one_same (get_or of t 0) c e in
        let got : get_or (set left (get_or of t 0) (get_or left (get_or of t 0) 0 - 1)) c 0 ≡ get_or left c 0 - 1 =
        subst (λ z. get_or (set left (get_or of t 0) (get_or left (get_or of t 0) 0 - 1)) z 0 ≡ get_or left z 0 - 1) e
        (get_or-set_same left (get_or of t 0) (get_or left (get_or of t 0) 0 - 1) 0 (k.stages t lt)) in
        omega arith)
        (λ (ne : get_or of t 0 ≡ c → ⊥).
        let weighs : one (get_or of t 0 == c) ≡ 0 = one_other (get_or of t 0) c ne in
        let got : get_or (set left (get_or of t 0) (get_or left (get_or of t 0) 0 - 1)) c 0 ≡ get_or left c 0 =
        get_or-set_other left (get_or of t 0) c (get_or left (get_or of t 0) 0 - 1) 0 (λ q. ne (sym q)) in
        omega arith)
        (cases_eq (get_or of t 0) c)

    count_at : (c : ℕ) → c < length left → get_or (set left (get_or of t 0) (get_or left (get_or of t 0) 0 - 1)) c 0 ≡ open_in of (set done t true) c
    count_at c cl =
        let a : get_or left c 0 ≡ open_in of done c = k.counts c cl in
        let v : get_or (set left (get_or of t 0) (get_or left (get_or of t 0) 0 - 1)) c 0 ≡ get_or left c 0 - one (get_or of t 0 == c) = value c cl in
        omega (arith, open_mark of done t c k.size lt h)

    passed_at : (c : ℕ) → c < at → get_or (set left (get_or of t 0) (get_or left (get_or of t 0) 0 - 1)) c 0 ≡ 0
    passed_at c ca =
        let w : at ≤ length left = k.within in
        let p : get_or left c 0 ≡ 0 = k.passed c ca in
        let v : get_or (set left (get_or of t 0) (get_or left (get_or of t 0) 0 - 1)) c 0 ≡ get_or left c 0 - one (get_or of t 0 == c) = value c (omega arith) in
        omega arith

-- a task that isn't done is left in its counter
pub left_one : (of : List ℕ) (done : List Bool) (left : List ℕ) (at t : ℕ) → Kept of done left at → t < length of → get_or done t false ≡ false → 1 ≤ get_or left (get_or of t 0) 0
left_one of done left at t k lt h =
    let a : get_or left (get_or of t 0) 0 ≡ open_in of done (get_or of t 0) = k.counts (get_or of t 0) (k.stages t lt) in
    let m : open_in of (set done t true) (get_or of t 0) + 1 ≡ open_in of done (get_or of t 0) = open_mark_same of done t (get_or of t 0) k.size lt h refl in
    omega arith

pub stage_iff : (of : List ℕ) (done : List Bool) (left : List ℕ) (at c : ℕ) → Kept of done left at → (get_or left c 0 ≡ 0) ↔ ((t : ℕ) → t < length of → get_or of t 0 ≡ c → get_or done t false ≡ true)
stage_iff of done left at c k = (
  (λ z t lt e.
      let s : get_or of t 0 < length left = k.stages t lt in
      let a : get_or left c 0 ≡ open_in of done c = k.counts c (omega arith) in
      open_zero of done c k.size (omega arith) t lt e),
  (λ h. ⊎_elim
      (λ (lt : c < length left). k.counts c lt ∙ open_none of done c h)
      (λ (ge : length left ≤ c). get_or_past left c 0 ge)
      (cases_lt c (length left))),
)

-- where every stage below here has none left, and here has one
pub lower_iff : (of : List ℕ) (done : List Bool) (left : List ℕ) (at here c : ℕ) → Kept of done left at
    → ((i : ℕ) → at ≤ i → i < here → get_or left i 0 ≡ 0) → (here < length left → 0 < get_or left here 0)
    → ((length left ≤ here) ⊎ (c ≤ here)) ↔ ((t : ℕ) → t < length of → get_or of t 0 < c → get_or done t false ≡ true)
lower_iff of done left at here c k passed stop = (
  (λ (z : (length left ≤ here) ⊎ (c ≤ here)). λ t lt below.
      let s : get_or of t 0 < length left = k.stages t lt in
      let under : get_or of t 0 < here = ⊎_elim (λ (q : length left ≤ here). omega arith) (λ (q : c ≤ here). omega arith) z in
      (stage_iff of done left at (get_or of t 0) k).0 (all_zero (get_or of t 0) under) t lt refl),
  (λ h. ⊎_elim
      (λ (lt : here < length left). ⊎_elim
      (λ (q : c ≤ here). inr q)
      (λ (q : here < c). absurd
      (let z : get_or left here 0 ≡ 0 = (stage_iff of done left at here k).1 (λ t tl e. h t tl (omega arith)) in
      let p : 0 < get_or left here 0 = stop lt in
      omega arith))
      (cases_le c here))
      (λ (ge : length left ≤ here). inl ge)
      (cases_lt here (length left))),
)
  where
    all_zero : (i : ℕ) → i < here → get_or left i 0 ≡ 0
    all_zero i lt = ⊎_elim (λ (a : i < at). k.passed i a) (λ (a : at ≤ i). passed i a lt) (cases_lt i at)

    cases_le : (a b : ℕ) → (a ≤ b) ⊎ (b < a)
    cases_le a b = ⊎_elim (λ (q : b < a). inr q) (λ (q : a ≤ b). inl q) (cases_lt b a)

-- the counters before anything is done
pub new_kept : (of : List ℕ) (left : List ℕ) → length of < 2 ^ 32 → ((t : ℕ) → t < length of → get_or of t 0 < length left)
    → ((c : ℕ) → c < length left → get_or left c 0 ≡ count_of of c) → Kept of (replicate (length of) false) left 0
new_kept of left fits below counts = record {
  size = length-replicate (length of) false;
  fits = fits;
  stages = below;
  counts = λ c lt. counts c lt ∙ sym (open_fresh of c);
  within = omega arith;
  passed = λ c lt. absurd (omega arith);
}

pub all_iff : (of : List ℕ) (done : List Bool) (left : List ℕ) (at here : ℕ) → Kept of done left at
    → ((i : ℕ) → at ≤ i → i < here → get_or left i 0 ≡ 0) → (here < length left → 0 < get_or left here 0)
    → (length left ≤ here) ↔ ((t : ℕ) → t < length of → get_or done t false ≡ true)
all_iff of done left at here k passed stop = (
  (λ z t lt. (let s : get_or of t 0 < length left = k.stages t lt in (lower_iff of done left at here (length left) k passed stop).0 (inl z) t lt s)),
  (λ h. ⊎_elim (λ (q : length left ≤ here). q) (λ (q : length left ≤ here). q) ((lower_iff of done left at here (length left) k passed stop).1 (λ t lt s. h t lt))),
)

-- the same for the values that the code has read
pub mark_read : (of : List ℕ) (done : List Bool) (left : List ℕ) (at t s v : ℕ) → Kept of done left at → t < length of
    → get_or done t false ≡ false → s ≡ get_or of t s → v ≡ get_or left s v → (1 ≤ v) × Kept of (set done t true) (set left s (v - 1)) at
mark_read of done left at t s v k lt h es ev =
    let e : get_or of t 0 ≡ s = sym (get_or_read of t s lt es 0) in
    let inside : s < length left = (let g : get_or of t 0 < length left = k.stages t lt in omega arith) in
    let f : get_or left s 0 ≡ v = sym (get_or_read left s v inside ev 0) in
    let one_left : 1 ≤ get_or left s 0 = subst (λ z. 1 ≤ get_or left z 0) e (left_one of done left at t k lt h) in
    let kept : Kept of (set done t true) (set left s (get_or left s 0 - 1)) at = subst (λ z. Kept of (set done t true) (set left z (get_or left z 0 - 1)) at) e (mark_kept of done left at t k lt h) in
    (omega arith, subst (λ z. Kept of (set done t true) (set left s (z - 1)) at) f kept)
