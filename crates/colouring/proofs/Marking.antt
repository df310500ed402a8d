-- Marks of rows of targets: they find the first two rows of one colour that have a common target.
use Rattle.std.proofs.Common.{◌≡◌, ℕ, ◌+◌, ◌-◌, ◌*◌, ◌<◌, ◌≤◌, ◌⊎◌, min, refl, sym, ap, subst, ◌∙◌, arith, ⊎_elim, inl, inr, List, length, get_or, set}
use Rattle.std.specs.List.{Contains}
use Rattle.std.specs.List.Sorted.{IsPermutation}
use Rattle.std.proofs.lemmas.Bool.{cases_eq}
use Rattle.std.proofs.lemmas.List.Sorted.{All-permutation, Contains-permutation}
use Rattle.std.proofs.lemmas.List.{get_or-set_same, get_or-set_other, get_or_default}
use Rattle.colouring.specs.Rows.{Conflict, none}
use Rattle.colouring.specs.Meeting.{Has, IsMet, Meet, SomeMeet, Marked}

-- ---- rows in order

-- rows from the first up to the last are among them, in any order
pub row_there : (xs ys : List ℕ) (first last now row : ℕ) → first + length xs ≡ now → last ≤ now
    → ((a : ℕ) → a < length xs → get_or xs a 0 ≡ first + a) → IsPermutation xs ys → first ≤ row → row < last → Contains ys row
row_there xs ys first last now row n l rows p low high =
    let k : ℕ = row - first in
    let lk : k < length xs = omega arith in
    let e : get_or xs k row ≡ row = get_or_default xs k row 0 lk ∙ rows k lk ∙ (let z : first + k ≡ row = omega arith in z) in
    Contains-permutation xs ys row p (k, lk, e)

-- each of them is one
pub rows_are : (xs ys : List ℕ) (first last now : ℕ) → first + length xs ≡ now → now ≤ last
    → ((a : ℕ) → a < length xs → get_or xs a 0 ≡ first + a) → IsPermutation xs ys → (a : ℕ) → a < length ys → (first ≤ get_or ys a 0)
    × (get_or ys a 0 < last)
rows_are xs ys first last now n l rows p a la =
    subst (λ z. (first ≤ z) × (z < last)) refl
    (All-permutation (λ x. (first ≤ x) × (x < last)) xs ys p
    (λ k d lk. (
    let e : get_or xs k d ≡ first + k = get_or_default xs k d 0 lk ∙ rows k lk in
    (omega arith, omega arith)))
    a 0 la)

-- ---- one row

-- a target of the places from the start up to k
abbrev pub Seen : List ℕ → ℕ → ℕ → ℕ → Type 0
Seen ts start k t = (j : ℕ) × (start ≤ j) × (j < k) × (get_or ts j 0 ≡ t)

-- those are marked with the row, others as before
abbrev pub AreMarked : List ℕ → ℕ → ℕ → ℕ → List ℕ → List ℕ → Type 0
AreMarked ts start k row old now =
    (t : ℕ) → t < length old → (Seen ts start k t × (get_or now t 0 ≡ row)) ⊎ ((Seen ts start k t → ⊥) × (get_or now t 0 ≡ get_or old t 0))

seen_more : (ts : List ℕ) (start k t : ℕ) → Seen ts start k t → Seen ts start (k + 1) t
seen_more ts start k t s = (s.0, s.1, omega (arith, s.2), s.3)

seen_less : (ts : List ℕ) (start k t : ℕ) → Seen ts start (k + 1) t → (t ≡ get_or ts k 0 → ⊥) → Seen ts start k t
seen_less ts start k t s other =
    let l : s.0 < k + 1 = s.2 in
    ⊎_elim
    (λ (e : s.0 ≡ k). absurd (other (sym s.3 ∙ ap (λ j. get_or ts j 0) e)))
    (λ (ne : s.0 ≡ k → ⊥). (s.0, s.1, omega arith, s.3))
    (cases_eq s.0 k)

pub none_seen : (ts : List ℕ) (start row : ℕ) (old : List ℕ) → AreMarked ts start start row old old
none_seen ts start row old t l = inr (λ s. (let a : start ≤ s.0 = s.1 in let b : s.0 < start = s.2 in omega arith), refl)

pub one_more_marked : (ts : List ℕ) (start k row : ℕ) (old now : List ℕ) → start ≤ k → get_or ts k 0 < length old → length now ≡ length old
    → AreMarked ts start k row old now → AreMarked ts start (k + 1) row old (set now (get_or ts k 0) row)
one_more_marked ts start k row old now from within long m t l =
    let u : ℕ = get_or ts k 0 in
    let lu : u < length now = omega arith in
    ⊎_elim
    (λ (e : t ≡ u). inl ((k, from, omega arith, sym e), subst (λ z. get_or (set now u row) z 0 ≡ row) (sym e) (get_or-set_same now u row 0 lu)))
    (λ (ne : t ≡ u → ⊥).
    let same : get_or (set now u row) t 0 ≡ get_or now t 0 = get_or-set_other now u t row 0 ne in
    ⊎_elim
    (λ (s : Seen ts start k t × (get_or now t 0 ≡ row)). inl (seen_more ts start k t s.0, same ∙ s.1))
    (λ (s : (Seen ts start k t → ⊥) × (get_or now t 0 ≡ get_or old t 0)). inr ((λ v. s.0 (seen_less ts start k t v ne)), same ∙ s.1))
    (m t l))
    (cases_eq t u)

-- the mark that is looked at is of the row itself, or as before
pub met_before : (ts cs : List ℕ) (start k first row t : ℕ) (old now : List ℕ) → t < length old → AreMarked ts start k row old now
    → IsMet cs first row (get_or now t 0) → IsMet cs first row (get_or old t 0)
met_before ts cs start k first row t old now l m h = ⊎_elim
    (λ (s : Seen ts start k t × (get_or now t 0 ≡ row)). absurd (h.2 s.1))
    (λ (s : (Seen ts start k t → ⊥) × (get_or now t 0 ≡ get_or old t 0)). subst (IsMet cs first row) s.1 h)
    (m t l)

-- none is met, with one place more
pub none_met_more : (ts cs : List ℕ) (start k first row : ℕ) (old now : List ℕ) → get_or ts k 0 < length old
    → AreMarked ts start k row old now → ((t : ℕ) → Seen ts start k t → IsMet cs first row (get_or old t 0) → ⊥)
    → (IsMet cs first row (get_or now (get_or ts k 0) 0) → ⊥) → (t : ℕ) → Seen ts start (k + 1) t → IsMet cs first row (get_or old t 0) → ⊥
none_met_more ts cs start k first row old now within m before other t s h = ⊎_elim
    (λ (e : t ≡ get_or ts k 0). (
    let u : ℕ = get_or ts k 0 in
    let hu : IsMet cs first row (get_or old u 0) = subst (λ z. IsMet cs first row (get_or old z 0)) e h in
    ⊎_elim
    (λ (v : Seen ts start k u × (get_or now u 0 ≡ row)). before u v.0 hu)
    (λ (v : (Seen ts start k u → ⊥) × (get_or now u 0 ≡ get_or old u 0)). other (subst (IsMet cs first row) (sym v.1) hu))
    (m u within)))
    (λ (ne : t ≡ get_or ts k 0 → ⊥). before t (seen_less ts start k t s ne) h)
    (cases_eq t (get_or ts k 0))

-- a mark is none or of a row
pub mark_of_row : (ts : List ℕ) (start k row t n : ℕ) (old now : List ℕ) → t < length old → row < n
    → ((u : ℕ) → u < length old → (get_or old u 0 ≡ none) ⊎ (get_or old u 0 < n)) → AreMarked ts start k row old now
    → (get_or now t 0 ≡ none) ⊎ (get_or now t 0 < n)
mark_of_row ts start k row t n old now l below h m = ⊎_elim
    (λ (s : Seen ts start k t × (get_or now t 0 ≡ row)). inr (subst (λ z. z < n) (sym s.1) below))
    (λ (s : (Seen ts start k t → ⊥) × (get_or now t 0 ≡ get_or old t 0)). subst (λ z. (z ≡ none) ⊎ (z < n)) (sym s.1) (h t l))
    (m t l)

-- what was seen in a whole row is what it has
pub seen_has : (ts : List ℕ) (w row start end t : ℕ) → start ≡ min (row * w) (length ts) → end ≡ min (row * w + w) (length ts) → Seen ts start end t → Has ts w row t
seen_has ts w row start end t es ee s =
    let a : start ≤ s.0 = s.1 in
    let b : s.0 < end = s.2 in
    (s.0, (omega arith, omega arith, omega arith), s.3)

pub has_seen : (ts : List ℕ) (w row start end t : ℕ) → start ≡ min (row * w) (length ts) → end ≡ min (row * w + w) (length ts) → Has ts w row t → Seen ts start end t
has_seen ts w row start end t es ee h =
    let a : row * w ≤ h.0 = h.1.0 in
    let b : h.0 < row * w + w = h.1.1 in
    let c : h.0 < length ts = h.1.2 in
    (h.0, omega arith, omega arith, h.2)

-- the marks of a whole row
pub row_marked : (ts : List ℕ) (w row start end : ℕ) (old now : List ℕ) → start ≡ min (row * w) (length ts)
    → end ≡ min (row * w + w) (length ts) → AreMarked ts start end row old now → (t : ℕ) → t < length old
    → (Has ts w row t × (get_or now t 0 ≡ row)) ⊎ ((Has ts w row t → ⊥) × (get_or now t 0 ≡ get_or old t 0))
row_marked ts w row start end old now es ee m t l = ⊎_elim
    (λ (s : Seen ts start end t × (get_or now t 0 ≡ row)). inl (seen_has ts w row start end t es ee s.0, s.1))
    (λ (s : (Seen ts start end t → ⊥) × (get_or now t 0 ≡ get_or old t 0)). inr ((λ h. s.0 (has_seen ts w row start end t es ee h)), s.1))
    (m t l)

pub has_within : (ts : List ℕ) (w row t n : ℕ) → ((k : ℕ) → k < length ts → get_or ts k 0 < n) → Has ts w row t → t < n
has_within ts w row t n h k = subst (λ z. z < n) k.2 (h k.0 k.1.2)

-- ---- rows one after another

module _ (ts : List ℕ) (w : ℕ) (cs order : List ℕ) where
  abbrev at : ℕ → ℕ
  at a = get_or order a 0

  -- of the first n rows no two meet
  abbrev pub NoneMeet : ℕ → Type 0
  NoneMeet n = (a e : ℕ) → a < n → e < n → Meet ts w cs (at a) (at e) → ⊥

  pub turned : (q p : ℕ) → Meet ts w cs q p → Meet ts w cs p q
  turned q p m = (λ e. m.0 (sym e), sym m.1, (m.2.1, m.2.0, m.2.3, m.2.2, sym m.2.4))

  met_by : (q p t : ℕ) → Has ts w q t → Has ts w p t → Conflict ts w q p
  met_by q p t h k = (h.0, k.0, h.1, k.1, h.2 ∙ sym k.2)

  module _ (first : ℕ) (few : length cs ≤ none)
      (rows : (a : ℕ) → a < length order → (first ≤ at a) × (at a < length cs))
      (sorted : (a e : ℕ) → a ≤ e → e < length order → get_or cs (at a) 0 ≤ get_or cs (at e) 0)
      (n : ℕ) (here : n < length order) (marks : List ℕ) (m : Marked ts w order first n marks)
      (within : (k : ℕ) → k < length ts → get_or ts k 0 < length marks)
    where
      -- a target of the next row that is marked with another row of its colour
      pub found : (t : ℕ) → Has ts w (at n) t → IsMet cs first (at n) (get_or marks t 0) → SomeMeet ts w cs order
      found t h met = ⊎_elim
          (λ (e : get_or marks t 0 ≡ none). absurd (met.0 e))
          (λ s. ⊎_elim
          (λ (l : get_or marks t 0 < first). absurd (let f : first ≤ get_or marks t 0 = met.1 in omega arith))
          (λ (x : (e : ℕ) × (e < n) × (get_or marks t 0 ≡ at e) × Has ts w (at e) t).
          (x.0, n, (let y : x.0 < n = x.1 in omega arith), here, ((λ q. met.2 (x.2 ∙ q)), ap (λ z. get_or cs z 0) (sym x.2) ∙ met.3, met_by (at x.0) (at n) t x.3 h)))
          s)
          (m.from t (has_within ts w (at n) t (length marks) within h))

      module _ (apart : NoneMeet n) (clear : (t : ℕ) → Has ts w (at n) t → IsMet cs first (at n) (get_or marks t 0) → ⊥) where
        -- an earlier row that meets the next one would have left a mark
        not_met : (a : ℕ) → a < n → Meet ts w cs (at a) (at n) → ⊥
        not_met a l k =
            let t : ℕ = get_or ts k.2.1 0 in
            let ha : Has ts w (at a) t = (k.2.0, k.2.2, k.2.4) in
            let hn : Has ts w (at n) t = (k.2.1, k.2.3, refl) in
            let x = m.last t a (has_within ts w (at n) t (length marks) within hn) l ha in
            let e : ℕ = x.0 in
            let le : a ≤ e = x.1 in
            let lt : e < n = x.2 in
            let up : get_or cs (at a) 0 ≤ get_or cs (at e) 0 = sorted a e le (omega arith) in
            let down : get_or cs (at e) 0 ≤ get_or cs (at n) 0 = sorted e n (omega arith) here in
            let ends : get_or cs (at a) 0 ≡ get_or cs (at n) 0 = k.1 in
            let same : get_or cs (at e) 0 ≡ get_or cs (at n) 0 = omega arith in
            ⊎_elim
            (λ (q : at e ≡ at n). apart a e l lt (subst (λ z. Meet ts w cs (at a) z) (sym q) k))
            (λ (ne : at e ≡ at n → ⊥).
            let re = rows e (omega arith) in
            let r0 : first ≤ at e = re.0 in
            let r1 : at e < length cs = re.1 in
            clear t hn (subst (IsMet cs first (at n)) (sym x.3) ((λ z. omega arith), r0, ne, same)))
            (cases_eq (at e) (at n))

        pub none_more : NoneMeet (n + 1)
        none_more a e la le k = ⊎_elim
            (λ (ea : a ≡ n). ⊎_elim
            (λ (ee : e ≡ n). k.0 (ap at ea ∙ sym (ap at ee)))
            (λ (ne : e ≡ n → ⊥). not_met e (omega arith) (subst (λ z. Meet ts w cs (at e) (at z)) ea (turned (at a) (at e) k)))
            (cases_eq e n))
            (λ (na : a ≡ n → ⊥). ⊎_elim
            (λ (ee : e ≡ n). not_met a (omega arith) (subst (λ z. Meet ts w cs (at a) (at z)) ee k))
            (λ (ne : e ≡ n → ⊥). apart a e (omega arith) (omega arith) k)
            (cases_eq e n))
            (cases_eq a n)

      -- with the next row's marks
      pub marked_more : (now : List ℕ) → length now ≡ length marks
          → ((t : ℕ) → t < length marks → (Has ts w (at n) t × (get_or now t 0 ≡ at n)) ⊎ ((Has ts w (at n) t → ⊥) × (get_or now t 0 ≡ get_or marks t 0)))
          → Marked ts w order first (n + 1) now
      marked_more now long h = record {
        last = λ t a l la k. ⊎_elim
            (λ (x : Has ts w (at n) t × (get_or now t 0 ≡ at n)). (n, (let y : a < n + 1 = la in omega arith), omega arith, x.1))
            (λ (x : (Has ts w (at n) t → ⊥) × (get_or now t 0 ≡ get_or marks t 0)). ⊎_elim
            (λ (e : a ≡ n). absurd (x.0 (subst (λ z. Has ts w (at z) t) e k)))
            (λ (ne : a ≡ n → ⊥).
            let y = m.last t a (omega arith) (omega arith) k in
            let up : y.0 < n = y.2 in
            (y.0, y.1, omega arith, x.1 ∙ y.3))
            (cases_eq a n))
            (h t (omega arith));
        from = λ t l. ⊎_elim
            (λ (x : Has ts w (at n) t × (get_or now t 0 ≡ at n)). inr (inr (n, omega arith, x.1, x.0)))
            (λ (x : (Has ts w (at n) t → ⊥) × (get_or now t 0 ≡ get_or marks t 0)). ⊎_elim
            (λ (e : get_or marks t 0 ≡ none). inl (x.1 ∙ e))
            (λ s. ⊎_elim
            (λ (f : get_or marks t 0 < first). inr (inl (subst (λ z. z < first) (sym x.1) f)))
            (λ (y : (e : ℕ) × (e < n) × (get_or marks t 0 ≡ at e) × Has ts w (at e) t).
            inr (inr (y.0, (let z : y.0 < n = y.1 in omega arith), x.1 ∙ y.2, y.3)))
            s)
            (m.from t (omega arith)))
            (h t (omega arith));
      }
