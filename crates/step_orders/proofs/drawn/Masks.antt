-- Turns ask only whether joins and sends are taken.
use Rattle.std.proofs.Common.{◌≡◌, ℕ, zero, suc, ◌<◌, Bool, true, false, cond, refl, sym, ap, subst, ◌∙◌, arith, ⊎_elim, List, [], ◌∷◌, ◌++◌}
use Rattle.std.specs.Prelude.{nat_lt, not, ◌&&◌, ◌||◌, ◌==◌}
use Rattle.std.proofs.lemmas.Bool.{cases_eq, eq-eqb, ne_eqb, or_left, cond-true, cond-false, or_right}
use Rattle.schedule_steps.specs.Outline.{Outline}
use Rattle.schedule_steps.specs.declared.step.Step.{Step}
use Rattle.schedule_steps.specs.declared.step.Step.TheVariants.{Send, Recv, Begin, End, Join}
use Rattle.schedule_steps.specs.Steps.{IsStep, same, has}
use Rattle.schedule_steps.specs.Members.{same_refl}
use Rattle.schedule_steps.specs.Turns.{marked}
use Rattle.schedule_steps.specs.Drawn.{first_below, next_join, is_early, waits, numbers, drawn_number, picked, turn, turn_by, put_left, TakenBy, DrawnFrom, Turn, Over, JoinOf, StepOf}
use Rattle.step_orders.specs.UnderWay.{is_rank_step}

pub numbers_same : (s t : ℕ → Bool) (n : ℕ) → ((x : ℕ) → x < n → s x ≡ t x) → numbers s n ≡ numbers t n
numbers_same s t zero h = refl
numbers_same s t (suc n) h =
    ap (λ z. z ++ cond (s n) (n ∷ []) []) (numbers_same s t n (λ x lt. h x (omega arith)))
    ∙ ap (λ b. numbers t n ++ cond b (n ∷ []) []) (h n (omega arith))

first_same : (s t : ℕ → Bool) (n : ℕ) → ((x : ℕ) → x < n → s x ≡ t x) → first_below s n ≡ first_below t n
first_same s t zero h = refl
first_same s t (suc n) h =
    ap (λ z. cond (nat_lt z n) z (cond (s n) n (suc n))) (first_same s t n (λ x lt. h x (omega arith)))
    ∙ ap (λ b. cond (nat_lt (first_below t n) n) (first_below t n) (cond b n (suc n))) (h n (omega arith))

module _ (o : Outline) where
  -- both say the same of the sends of the plan
  abbrev SameSends : (Step → Bool) → (Step → Bool) → Type 0
  SameSends m n = (k s r : ℕ) → IsStep o (Send k s r) → m (Send k s r) ≡ n (Send k s r)

  -- both say the same of its joins and sends
  pub record Same (m n : Step → Bool) : Type 0 where
    pub joins : (j : ℕ) → j < o.items → o.is_free j ≡ false → m (Join j) ≡ n (Join j)
    pub sends : SameSends m n

  -- what is left of ranks are steps of theirs
  abbrev Planned : (ℕ → List Step) → Type 0
  Planned rest = (r : ℕ) → r < o.ranks → (t : Step) → has (rest r) t ≡ true → IsStep o t × (is_rank_step t ≡ true)

  pub left_planned : (rest : ℕ → List Step) (r : ℕ) (s : Step) (left : List Step) → rest r ≡ s ∷ left → Planned rest → Planned (put_left r left rest)
  left_planned rest r s left of_rank p y ly t h = ⊎_elim
      (λ (e : y ≡ r). p y ly t (ap (λ z. has (rest z) t) e ∙ (ap (λ z. has z t) of_rank
      ∙ or_right (same t s) (has left t) (sym (ap (λ z. has z t) (cond-true (y == r) left (rest y) (eq-eqb y r e))) ∙ h))))
      (λ (ne : y ≡ r → ⊥). p y ly t (sym (ap (λ z. has z t) (cond-false (y == r) left (rest y) (ne_eqb y r ne))) ∙ h))
      (cases_eq y r)

  pub waits_same : (m n : Step → Bool) → SameSends m n → (l : List Step) → ((s : Step) → has l s ≡ true → IsStep o s) → waits m l ≡ waits n l
  waits_same m n e [] h = refl
  waits_same m n e (Recv k r s ∷ l) h = ap (λ b. not b) (e k s r (h (Recv k r s) (or_left (same (Recv k r s) (Recv k r s)) (has l (Recv k r s)) (same_refl (Recv k r s)))))
  waits_same m n e (Send k r s ∷ l) h = refl
  waits_same m n e (Begin k r s ∷ l) h = refl
  waits_same m n e (End k r s ∷ l) h = refl
  waits_same m n e (Join k ∷ l) h = refl

  next_same : (m n : Step → Bool) → Same m n → next_join o m ≡ next_join o n
  next_same m n e = first_same _ _ o.items (λ j lt. by j lt (o.is_free j) refl)
    where
      by : (j : ℕ) → j < o.items → (b : Bool) → o.is_free j ≡ b → (not (o.is_free j) && not (m (Join j))) ≡ (not (o.is_free j) && not (n (Join j)))
      by j lt true f = ap (λ b. not b && not (m (Join j))) f ∙ sym (ap (λ b. not b && not (n (Join j))) f)
      by j lt false f = ap (λ b. not (o.is_free j) && not b) (e.joins j lt f)

  turn_same : (rest : ℕ → List Step) (m n : Step → Bool) (x : ℕ) → Planned rest → Same m n → turn o rest m x ≡ turn o rest n x
  turn_same rest m n x p e =
      ap (λ k. turn_by o rest m x k (numbers (λ r. is_early k (rest r)) o.ranks)) (next_same m n e)
      ∙ by (numbers (λ r. is_early (next_join o n) (rest r)) o.ranks)
    where
      by : (early : List ℕ) → turn_by o rest m x (next_join o n) early ≡ turn_by o rest n x (next_join o n) early
      by [] = refl
      by (y ∷ early) = ap (λ z. StepOf (picked (drawn_number x) z))
          (numbers_same _ _ o.ranks (λ r lt. ap (λ b. is_early (next_join o n) (rest r) && not b) (waits_same m n e.sends (rest r) (λ s h. (p r lt s h).0))))

  marked_same : (m n : Step → Bool) (s : Step) → Same m n → Same (marked s m) (marked s n)
  marked_same m n s e = record {
    joins = λ j lt f. ap (λ b. same (Join j) s || b) (e.joins j lt f);
    sends = λ k a b h. ap (λ c. same (Send k a b) s || c) (e.sends k a b h);
  }

  pub drawn_same : (l : List Step) (rest : ℕ → List Step) (m n : Step → Bool) (x : ℕ) → Planned rest → Same m n → DrawnFrom o rest m x l → DrawnFrom o rest n x l
  drawn_same [] rest m n x p e d = sym (turn_same rest m n x p e) ∙ d
  drawn_same (s ∷ l) rest m n x p e d =
      subst (λ z. TakenBy rest s z (DrawnFrom o rest (marked s n) x l) (λ r left. DrawnFrom o (put_left r left rest) (marked s n) (drawn_number x) l)) (turn_same rest m n x p e)
      (by (turn o rest m x) d (λ w. drawn_same l rest (marked s m) (marked s n) x p (marked_same m n s e) w)
      (λ r left is w. drawn_same l (put_left r left rest) (marked s m) (marked s n) (drawn_number x) (left_planned rest r s left is p) (marked_same m n s e) w))
    where
      by : (t : Turn) → TakenBy rest s t (DrawnFrom o rest (marked s m) x l) (λ r left. DrawnFrom o (put_left r left rest) (marked s m) (drawn_number x) l)
          → (DrawnFrom o rest (marked s m) x l → DrawnFrom o rest (marked s n) x l)
          → ((r : ℕ) (left : List Step) → rest r ≡ s ∷ left → DrawnFrom o (put_left r left rest) (marked s m) (drawn_number x) l → DrawnFrom o (put_left r left rest) (marked s n) (drawn_number x) l)
          → TakenBy rest s t (DrawnFrom o rest (marked s n) x l) (λ r left. DrawnFrom o (put_left r left rest) (marked s n) (drawn_number x) l)
      by Over w j st = w
      by (JoinOf k) w j st = (w.0, j w.1)
      by (StepOf r) w j st = (w.0, w.1, st r w.0 w.1 w.2)
