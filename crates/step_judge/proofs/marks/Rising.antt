-- Pairs that rise, and the first of them that is asked for.
use Rattle.std.proofs.Common.{◌≡◌, ℕ, zero, suc, ◌+◌, ◌-◌, ◌<◌, ◌≤◌, Bool, true, false, cond, ◌⊎◌, inl, inr, refl, sym, ap, subst, ◌∙◌, arith, ⊎_elim, List, [], ◌∷◌, length, get_or}
use Rattle.std.specs.Prelude.{◌&&◌, ◌==◌}
use Rattle.std.proofs.lemmas.Bool.{cases_eq, cases_lt, eqb-true, and_parts, false_from_ne_true}
use Rattle.step_judge.specs.Item.{pair_at}
use Rattle.step_judge.specs.Rising.{Before, RisingUpTo, Rising}

pub before_trans : (a b c d e f : ℕ) → Before a b c d → Before c d e f → Before a b e f
before_trans a b c d e f x y = ⊎_elim
    (λ (l : a < c). ⊎_elim
    (λ (m : c < e). inl (omega arith))
    (λ (m : (c ≡ e) × (d < f)). let q : c ≡ e = m.0 in inl (omega arith))
    y)
    (λ (l : (a ≡ c) × (b < d)).
    let p : a ≡ c = l.0 in
    let u : b < d = l.1 in
    ⊎_elim
    (λ (m : c < e). inl (omega arith))
    (λ (m : (c ≡ e) × (d < f)). let q : c ≡ e = m.0 in let v : d < f = m.1 in inr (omega arith, omega arith))
    y)
    x

pub before_self : (a b : ℕ) → Before a b a b → ⊥
before_self a b x = ⊎_elim (λ (l : a < a). omega arith) (λ (l : (a ≡ a) × (b < b)). let v : b < b = l.1 in omega arith) x

module _ (fs ts : List ℕ) where
  abbrev At : ℕ → ℕ → Type 0
  At i j = Before (get_or fs i 0) (get_or ts i 0) (get_or fs j 0) (get_or ts j 0)

  pub one_more : (n : ℕ) → 1 ≤ n → RisingUpTo n fs ts → At (n - 1) n → RisingUpTo (n + 1) fs ts
  one_more n pos up h i j lt le = ⊎_elim
      (λ (e : j ≡ n). subst (At i) (sym e) (last (cases_eq i (n - 1))))
      (λ (ne : j ≡ n → ⊥). up i j lt (omega arith))
      (cases_eq j n)
    where
      last : (i ≡ n - 1) ⊎ (i ≡ n - 1 → ⊥) → At i n
      last s = ⊎_elim
          (λ (e : i ≡ n - 1). subst (λ z. At z n) (sym e) h)
          (λ (ne : i ≡ n - 1 → ⊥).
          before_trans (get_or fs i 0) (get_or ts i 0) (get_or fs (n - 1) 0) (get_or ts (n - 1) 0) (get_or fs n 0) (get_or ts n 0)
          (up i (n - 1) (omega arith) (omega arith)) h)
          s

abbrev Is : List ℕ → List ℕ → ℕ → ℕ → ℕ → Bool
Is fs ts s r i = (get_or fs i 0 == s) && (get_or ts i 0 == r)

-- the first pair that is asked for
first_pair : (fs ts : List ℕ) (s r i : ℕ) → length ts ≡ length fs → i < length fs → Is fs ts s r i ≡ true → ((j : ℕ) → j < i → Is fs ts s r j ≡ false) → pair_at fs ts s r ≡ i
first_pair [] ts s r i n lt here none = absurd (omega arith)
first_pair (f ∷ fs) [] s r i n lt here none = absurd (omega arith)
first_pair (f ∷ fs) (t ∷ ts) s r zero n lt here none = ap (λ b. cond b 0 (suc (pair_at fs ts s r))) here
first_pair (f ∷ fs) (t ∷ ts) s r (suc i) n lt here none =
    ap (λ b. cond b 0 (suc (pair_at fs ts s r))) (none 0 (omega arith))
    ∙ ap suc (first_pair fs ts s r i (omega arith) (omega arith) here (λ j l. none (suc j) (omega arith)))

-- none is
no_pair : (fs ts : List ℕ) (s r : ℕ) → length ts ≡ length fs → ((j : ℕ) → j < length fs → Is fs ts s r j ≡ false) → pair_at fs ts s r ≡ length fs
no_pair [] ts s r n none = refl
no_pair (f ∷ fs) [] s r n none = absurd (omega arith)
no_pair (f ∷ fs) (t ∷ ts) s r n none =
    ap (λ b. cond b 0 (suc (pair_at fs ts s r))) (none 0 (omega arith))
    ∙ ap suc (no_pair fs ts s r (omega arith) (λ j l. none (suc j) (omega arith)))

module _ (fs ts : List ℕ) (s r : ℕ) where
  -- a pair before the one that is asked for is another
  apart : (j : ℕ) → Before (get_or fs j 0) (get_or ts j 0) s r → Is fs ts s r j ≡ false
  apart j b = false_from_ne_true (Is fs ts s r j) (λ y.
      let p : ((get_or fs j 0 == s) ≡ true) × ((get_or ts j 0 == r) ≡ true) = and_parts (get_or fs j 0 == s) (get_or ts j 0 == r) y in
      before_self s r (subst (λ z. Before z r s r) (eqb-true (get_or fs j 0) s p.0) (subst (λ z. Before (get_or fs j 0) z s r) (eqb-true (get_or ts j 0) r p.1) b)))

  pub found : (i : ℕ) → length ts ≡ length fs → i < length fs → Is fs ts s r i ≡ true
      → ((j : ℕ) → j < i → Before (get_or fs j 0) (get_or ts j 0) s r)
      → i ≡ pair_at fs ts s r
  found i n lt here before = sym (first_pair fs ts s r i n lt here (λ j l. apart j (before j l)))

  pub not_found : (i : ℕ) → length ts ≡ length fs → Rising fs ts
      → ((j : ℕ) → j < i → Before (get_or fs j 0) (get_or ts j 0) s r)
      → ((j : ℕ) → i ≤ j → j < length fs → Before (get_or fs j 0) (get_or ts j 0) s r → ⊥)
      → (i < length fs → Is fs ts s r i ≡ false)
      → length fs ≡ pair_at fs ts s r
  not_found i n rising before later here = sym (no_pair fs ts s r n (λ j l. ⊎_elim
      (λ (lt : j < i). apart j (before j lt))
      (λ (le : i ≤ j). ⊎_elim
      (λ (e : j ≡ i). subst (λ z. Is fs ts s r z ≡ false) (sym e) (here (omega arith)))
      (λ (ne : j ≡ i → ⊥). false_from_ne_true (Is fs ts s r j) (λ y.
      let p : ((get_or fs j 0 == s) ≡ true) × ((get_or ts j 0 == r) ≡ true) = and_parts (get_or fs j 0 == s) (get_or ts j 0 == r) y in
      later i (omega arith) (omega arith)
      (subst (λ z. Before (get_or fs i 0) (get_or ts i 0) z r) (eqb-true (get_or fs j 0) s p.0)
      (subst (λ z. Before (get_or fs i 0) (get_or ts i 0) (get_or fs j 0) z) (eqb-true (get_or ts j 0) r p.1) (rising i j (omega arith) l)))))
      (cases_eq j i))
      (split j)))
    where
      split : (j : ℕ) → (j < i) ⊎ (i ≤ j)
      split j = cases_lt j i

module _ (fs ts : List ℕ) (s r m : ℕ) (rising : Rising fs ts) (lt : m < length fs) where
  pub before_all : Before (get_or fs m 0) (get_or ts m 0) s r → (i : ℕ) → i < m + 1 → Before (get_or fs i 0) (get_or ts i 0) s r
  before_all h i li = ⊎_elim
      (λ (e : i ≡ m). subst (λ z. Before (get_or fs z 0) (get_or ts z 0) s r) (sym e) h)
      (λ (ne : i ≡ m → ⊥). before_trans (get_or fs i 0) (get_or ts i 0) (get_or fs m 0) (get_or ts m 0) s r (rising i m (omega arith) lt) h)
      (cases_eq i m)

  pub later_all : (Before (get_or fs m 0) (get_or ts m 0) s r → ⊥) → (i : ℕ) → m ≤ i → i < length fs → Before (get_or fs i 0) (get_or ts i 0) s r → ⊥
  later_all h i le li b = ⊎_elim
      (λ (e : i ≡ m). h (subst (λ z. Before (get_or fs z 0) (get_or ts z 0) s r) e b))
      (λ (ne : i ≡ m → ⊥). h (before_trans (get_or fs m 0) (get_or ts m 0) (get_or fs i 0) (get_or ts i 0) s r (rising m i (omega arith) li) b))
      (cases_eq i m)
