-- The receivers and the senders among all pairs that pass a test.
use Rattle.std.proofs.Common.{◌≡◌, ℕ, zero, suc, ◌<◌, ◌≤◌, Bool, true, false, cond, refl, ap, ◌∙◌, arith, ⊎_elim, List, [], ◌∷◌, ◌++◌, append-nil, map}
use Rattle.std.specs.Prelude.{◌==◌, ◌&&◌, filter, All}
use Rattle.std.proofs.lemmas.Bool.{cases_eq, eq-eqb, ne_eqb, and_right}
use Rattle.std.proofs.lemmas.List.{map-append}
use Rattle.std.proofs.lemmas.List.Elements.{All-append, All-map}
use Rattle.schedule_steps.specs.Drawn.{numbers}
use Rattle.lemmas.specs.Below.{listed}
use Rattle.loop_plan.specs.declared.types.Pair.{Pair}
use Rattle.loop_plan.specs.Pairs.{pair, pairs_below}
use Rattle.schedule_check.specs.Messages.{receivers_in, senders_in}
use Rattle.schedule_check.proofs.plan_orders.PairLists.{chosen_append, chosen_one}

listed_numbers : (n : ℕ) (t : ℕ → Bool) → listed n t ≡ numbers t n
listed_numbers zero t = refl
listed_numbers (suc n) t = ap (λ z. z ++ cond (t n) (n ∷ []) []) (listed_numbers n t)

abbrev from : Pair → ℕ
from q = q.from

abbrev to : Pair → ℕ
to q = q.to

-- ---- receivers

-- the pairs of one sender
of_sender : (m s : ℕ) (b : Bool) → (m == s) ≡ b → (l : List ℕ) → receivers_in (map (pair m) l) s ≡ cond b l []
of_sender m s true e [] = refl
of_sender m s false e [] = refl
of_sender m s true e (x ∷ l) =
    ap (λ b. map to (cond b (pair m x ∷ filter (λ (q : Pair). q.from == s) (map (pair m) l)) (filter (λ (q : Pair). q.from == s) (map (pair m) l)))) e
    ∙ ap (λ z. x ∷ z) (of_sender m s true e l)
of_sender m s false e (x ∷ l) =
    ap (λ b. map to (cond b (pair m x ∷ filter (λ (q : Pair). q.from == s) (map (pair m) l)) (filter (λ (q : Pair). q.from == s) (map (pair m) l)))) e
    ∙ of_sender m s false e l

module _ (t : ℕ → ℕ → Bool) (n : ℕ) where
  more_sent : (m s : ℕ) → receivers_in (pairs_below t n (suc m)) s ≡ receivers_in (pairs_below t n m) s ++ cond (m == s) (listed n (t m)) []
  more_sent m s =
      chosen_append from to (pairs_below t n m) (map (pair m) (listed n (t m))) s
      ∙ ap (λ z. receivers_in (pairs_below t n m) s ++ z) (of_sender m s (m == s) refl (listed n (t m)))

  not_sent : (m s : ℕ) → m ≤ s → receivers_in (pairs_below t n m) s ≡ []
  not_sent zero s le = refl
  not_sent (suc m) s le =
      more_sent m s
      ∙ (ap (λ z. z ++ cond (m == s) (listed n (t m)) []) (not_sent m s (omega arith))
      ∙ ap (λ b. cond b (listed n (t m)) []) (ne_eqb m s (λ e. omega arith)))

  sent : (m s : ℕ) → s < m → receivers_in (pairs_below t n m) s ≡ listed n (t s)
  sent zero s lt = absurd (omega arith)
  sent (suc m) s lt = ⊎_elim
      (λ (e : m ≡ s).
      more_sent m s
      ∙ (ap (λ z. z ++ cond (m == s) (listed n (t m)) []) (not_sent m s (omega arith))
      ∙ (ap (λ b. cond b (listed n (t m)) []) (eq-eqb m s e) ∙ ap (λ z. listed n (t z)) e)))
      (λ (ne : m ≡ s → ⊥).
      more_sent m s
      ∙ (ap (λ b. receivers_in (pairs_below t n m) s ++ cond b (listed n (t m)) []) (ne_eqb m s ne)
      ∙ (append-nil (receivers_in (pairs_below t n m) s) ∙ sent m s (omega arith))))
      (cases_eq m s)

  pub receivers_are : (m s : ℕ) → s < m → receivers_in (pairs_below t n m) s ≡ numbers (t s) n
  receivers_are m s lt = sent m s lt ∙ listed_numbers n (t s)

-- ---- senders

more_of : (m n r : ℕ) (u : ℕ → Bool)
    → senders_in (map (pair m) (listed (suc n) u)) r ≡ senders_in (map (pair m) (listed n u)) r ++ cond (u n && (n == r)) (m ∷ []) []
more_of m n r u =
    ap (λ z. senders_in z r) (map-append (pair m) (listed n u) (cond (u n) (n ∷ []) []))
    ∙ (chosen_append to from (map (pair m) (listed n u)) (map (pair m) (cond (u n) (n ∷ []) [])) r
    ∙ ap (λ z. senders_in (map (pair m) (listed n u)) r ++ z) (last (u n)))
  where
    last : (b : Bool) → senders_in (map (pair m) (cond b (n ∷ []) [])) r ≡ cond (b && (n == r)) (m ∷ []) []
    last true = chosen_one to from (pair m n) r
    last false = refl

and_yes : (b c : Bool) → c ≡ true → (b && c) ≡ b
and_yes true c e = e
and_yes false c e = refl

none_of : (m n r : ℕ) (u : ℕ → Bool) → n ≤ r → senders_in (map (pair m) (listed n u)) r ≡ []
none_of m zero r u le = refl
none_of m (suc n) r u le =
    more_of m n r u
    ∙ (ap (λ z. z ++ cond (u n && (n == r)) (m ∷ []) []) (none_of m n r u (omega arith))
    ∙ ap (λ b. cond b (m ∷ []) []) (and_right (u n) (n == r) (ne_eqb n r (λ e. omega arith))))

one_of : (m n r : ℕ) (u : ℕ → Bool) → r < n → senders_in (map (pair m) (listed n u)) r ≡ cond (u r) (m ∷ []) []
one_of m zero r u lt = absurd (omega arith)
one_of m (suc n) r u lt = ⊎_elim
    (λ (e : n ≡ r).
    more_of m n r u
    ∙ (ap (λ z. z ++ cond (u n && (n == r)) (m ∷ []) []) (none_of m n r u (omega arith))
    ∙ (ap (λ b. cond b (m ∷ []) []) (and_yes (u n) (n == r) (eq-eqb n r e)) ∙ ap (λ z. cond (u z) (m ∷ []) []) e)))
    (λ (ne : n ≡ r → ⊥).
    more_of m n r u
    ∙ (ap (λ b. senders_in (map (pair m) (listed n u)) r ++ cond b (m ∷ []) []) (and_right (u n) (n == r) (ne_eqb n r ne))
    ∙ (append-nil (senders_in (map (pair m) (listed n u)) r) ∙ one_of m n r u (omega arith))))
    (cases_eq n r)

pub senders_are : (t : ℕ → ℕ → Bool) (n m r : ℕ) → r < n → senders_in (pairs_below t n m) r ≡ numbers (λ s. t s r) m
senders_are t n zero r lt = refl
senders_are t n (suc m) r lt =
    chosen_append to from (pairs_below t n m) (map (pair m) (listed n (t m))) r
    ∙ (ap (λ z. z ++ senders_in (map (pair m) (listed n (t m))) r) (senders_are t n m r lt)
    ∙ ap (λ z. numbers (λ s. t s r) m ++ z) (one_of m n r (t m) lt))

-- ---- bounds

all_none : (P : ℕ → Type 0) → All P []
all_none P i d lt = absurd (omega arith)

all_one : (P : ℕ → Type 0) (x : ℕ) → P x → All P (x ∷ [])
all_one P x p zero d lt = p
all_one P x p (suc i) d lt = absurd (omega arith)

listed_below : (n l : ℕ) (t : ℕ → Bool) → n ≤ l → All (λ x. x < l) (listed n t)
listed_below zero l t le = all_none (λ x. x < l)
listed_below (suc n) l t le =
    All-append (λ x. x < l) (listed n t) (cond (t n) (n ∷ []) []) (listed_below n l t (omega arith)) (by (t n))
  where
    by : (b : Bool) → All (λ x. x < l) (cond b (n ∷ []) [])
    by true = all_one (λ x. x < l) n (omega arith)
    by false = all_none (λ x. x < l)

abbrev Within : ℕ → Pair → Type 0
Within l q = (q.from < l) × (q.to < l)

pub pairs_within : (t : ℕ → ℕ → Bool) (l m : ℕ) → m ≤ l → All (λ (q : Pair). (q.from < l) × (q.to < l)) (pairs_below t l m)
pairs_within t l zero le = λ i d lt. absurd (omega arith)
pairs_within t l (suc m) le =
    All-append (λ (q : Pair). Within l q) (pairs_below t l m) (map (pair m) (listed l (t m)))
    (pairs_within t l m (omega arith))
    (All-map (λ (q : Pair). Within l q) (pair m) (listed l (t m)) (λ i d lt. ((let a : m < l = omega arith in a), listed_below l l (t m) (omega arith) i d lt)))
