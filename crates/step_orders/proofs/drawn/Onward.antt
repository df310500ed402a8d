-- A drawn order under way after one more step.
use Rattle.std.proofs.Common.{◌≡◌, ℕ, ◌+◌, ◌<◌, ◌≤◌, Bool, true, false, cond, refl, sym, ap, subst, ◌∙◌, arith, ⊎_elim, List, [], ◌∷◌, ◌++◌}
use Rattle.std.specs.Prelude.{nat_lt, ◌&&◌, ◌||◌, ◌==◌}
use Rattle.std.proofs.lemmas.Bool.{lt-ltb, le-ltb, ltb-false, cases_eq, cases_lt, false≢true, eq-eqb, ne_eqb, or_left, and_from, or_right}
use Rattle.std.proofs.lemmas.List.{append_assoc}
use Rattle.schedule_steps.specs.Outline.{Outline}
use Rattle.schedule_steps.specs.declared.step.Step.{Step}
use Rattle.schedule_steps.specs.declared.step.Step.TheVariants.{Send, Recv, Begin, End, Join}
use Rattle.schedule_steps.specs.Steps.{IsStep, Earlier, by_item, same, has, Accepted}
use Rattle.schedule_steps.specs.Members.{same_refl, has_push}
use Rattle.schedule_steps.specs.Turns.{marked}
use Rattle.schedule_steps.specs.Drawn.{drawn_number, turn, put_left, TakenBy, DrawnFrom, Over, JoinOf, StepOf}
use Rattle.step_orders.proofs.drawn.Masks.{left_planned}
use Rattle.step_orders.specs.UnderWay.{IsNextJoin, sent_after, is_rank_step, IsUnderWay}

pushed : (list : List Step) (s : Step) → has (list ++ (s ∷ [])) ≡ marked s (has list)
pushed list s = λ i t. has_push list s t i

or_same : (a b c : Bool) → a ≡ false → b ≡ c → (a || b) ≡ c
or_same a b c e f = ap (λ z. z || b) e ∙ f

module _ (o : Outline) (rest : ℕ → List Step) (m : Step → Bool) (x : ℕ) where
  -- nothing is to come
  pub over : (n : List Step) → DrawnFrom o rest m x n → turn o rest m x ≡ Over → n ≡ []
  over [] h e = refl
  over (s ∷ l) h e = absurd (subst (λ z. TakenBy rest s z (DrawnFrom o rest (marked s m) x l) (λ r left. DrawnFrom o (put_left r left rest) (marked s m) (drawn_number x) l)) e h)

  -- a join is to come
  pub joined : (k : ℕ) (n : List Step) → DrawnFrom o rest m x n → turn o rest m x ≡ JoinOf k → (l : List Step) × (n ≡ Join k ∷ l) × DrawnFrom o rest (marked (Join k) m) x l
  joined k [] h e = absurd (let y : Over ≡ JoinOf k = sym h ∙ e in cc)
  joined k (s ∷ l) h e =
      let y : (s ≡ Join k) × DrawnFrom o rest (marked s m) x l =
      subst (λ z. TakenBy rest s z (DrawnFrom o rest (marked s m) x l)
      (λ r left. DrawnFrom o (put_left r left rest) (marked s m) (drawn_number x) l)) e h in
      (l, ap (λ z. z ∷ l) y.0, subst (λ z. DrawnFrom o rest (marked z m) x l) y.0 y.1)

  -- a rank's step is to come
  pub record IsNext (r : ℕ) (n : List Step) : Type 0 where
    pub step : Step
    pub later : List Step
    pub left : List Step
    pub first : n ≡ step ∷ later
    pub of_rank : rest r ≡ step ∷ left
    pub turns : DrawnFrom o (put_left r left rest) (marked step m) (drawn_number x) later

  pub stepped : (r : ℕ) (n : List Step) → DrawnFrom o rest m x n → turn o rest m x ≡ StepOf r → IsNext r n
  stepped r [] h e = absurd (let y : Over ≡ StepOf r = sym h ∙ e in cc)
  stepped r (s ∷ l) h e =
      let y : (left : List Step) × (rest r ≡ s ∷ left) × DrawnFrom o (put_left r left rest) (marked s m) (drawn_number x) l =
      subst (λ z. TakenBy rest s z (DrawnFrom o rest (marked s m) x l) (λ r left. DrawnFrom o (put_left r left rest) (marked s m) (drawn_number x) l)) e h in
      record { step = s; later = l; left = y.0; first = refl; of_rank = y.1; turns = y.2 }

module _ (o : Outline) (list coming : List Step) (rest : ℕ → List Step) (x join : ℕ) (below : ℕ → ℕ → ℕ) (u : IsUnderWay o list coming rest x join below) where
  pub after_join : (next : ℕ) (later : List Step) → coming ≡ Join join ∷ later → DrawnFrom o rest (marked (Join join) (has list)) x later → IsNextJoin o (join + 1) next
      → IsUnderWay o (list ++ (Join join ∷ [])) later rest x next below
  after_join next later first turns j = record {
    accepted = subst (λ z. Accepted o z) (ap (λ z. list ++ z) first ∙ sym (append_assoc list (Join join ∷ []) later)) u.accepted;
    turns = subst (λ z. DrawnFrom o rest z x later) (sym (pushed list (Join join))) turns;
    planned = u.planned;
    joins = λ k lt f. has_push list (Join join) (Join k) ∙ known k lt f;
    within = j.within;
    at = j.at;
    sends = λ k s r p. has_push list (Join join) (Send k s r) ∙ u.sends k s r p;
  }
    where
      far : join + 1 ≤ next
      far = j.after

      known : (k : ℕ) → k < o.items → o.is_free k ≡ false → ((k == join) || has list (Join k)) ≡ nat_lt k next
      known k lt f = ⊎_elim
          (λ (l : k < join). or_right (k == join) (has list (Join k)) (u.joins k lt f ∙ lt-ltb k join l) ∙ sym (lt-ltb k next (omega arith)))
          (λ (l : join ≤ k). ⊎_elim
          (λ (i : k ≡ join). ap (λ b. b || has list (Join k)) (eq-eqb k join i) ∙ sym (lt-ltb k next (omega arith)))
          (λ (ne : k ≡ join → ⊥). or_same (k == join) (has list (Join k)) (nat_lt k next) (ne_eqb k join ne)
          (u.joins k lt f ∙ (le-ltb k join l ∙ sym (⊎_elim
          (λ (before : k < next). absurd (false≢true (sym f ∙ j.free k (omega arith) before)))
          (λ (past : next ≤ k). le-ltb k next past)
          (cases_lt k next)))))
          (cases_eq k join))
          (cases_lt k join)

  module _ (r : ℕ) (d : IsNext o rest (has list) x r coming) (lr : r < o.ranks) where
    abbrev s : Step
    s = d.step

    here : list ++ coming ≡ list ++ (s ∷ d.later)
    here = ap (λ z. list ++ z) d.first

    pub mine : IsStep o s × (is_rank_step s ≡ true)
    mine = u.planned r lr s (ap (λ z. has z s) d.of_rank ∙ or_left (same s s) (has d.left s) (same_refl s))

    fresh : has list s ≡ false
    fresh = u.accepted.once list s d.later here

    no_join : (k : ℕ) (t : Step) → is_rank_step t ≡ true → same (Join k) t ≡ false
    no_join k (Send a b c) e = refl
    no_join k (Recv a b c) e = refl
    no_join k (Begin a b c) e = refl
    no_join k (End a b c) e = refl
    no_join k (Join a) e = absurd (false≢true e)

    -- the sends that are taken after one more
    sent : (t : Step) → IsStep o t → has list t ≡ false → ((q : Step) → IsStep o q → Earlier o q t → has list q ≡ true)
        → (k a b : ℕ) → IsStep o (Send k a b) → (same (Send k a b) t || has list (Send k a b)) ≡ nat_lt k (sent_after below t a b)
    sent (Send i y z) step new before k a b p = ⊎_elim
        (λ (ea : a ≡ y). ⊎_elim
        (λ (eb : b ≡ z).
        let yes : ((a == y) && (b == z)) ≡ true = and_from (a == y) (b == z) (eq-eqb a y ea) (eq-eqb b z eb) in
        ap (λ w. ((k == i) && w) || has list (Send k a b)) yes
        ∙ (by_number ea eb ∙ sym (ap (λ w. nat_lt k (cond w (i + 1) (below a b))) yes)))
        (λ (nb : b ≡ z → ⊥). other (and_no (a == y) (b == z) (ne_eqb b z nb)))
        (cases_eq b z))
        (λ (na : a ≡ y → ⊥). other (ap (λ w. w && (b == z)) (ne_eqb a y na)))
        (cases_eq a y)
      where
        and_no : (v w : Bool) → w ≡ false → (v && w) ≡ false
        and_no true w e = e
        and_no false w e = refl

        and_yes : (v : Bool) → (v && true) ≡ v
        and_yes true = refl
        and_yes false = refl

        other : ((a == y) && (b == z)) ≡ false → (((k == i) && ((a == y) && (b == z))) || has list (Send k a b)) ≡ nat_lt k (cond ((a == y) && (b == z)) (i + 1) (below a b))
        other apart =
            or_same ((k == i) && ((a == y) && (b == z))) (has list (Send k a b)) (nat_lt k (below a b)) (and_no (k == i) ((a == y) && (b == z)) apart) (u.sends k a b p)
            ∙ sym (ap (λ w. nat_lt k (cond w (i + 1) (below a b))) apart)

        of_pair : a ≡ y → b ≡ z → (v : ℕ) → Send v y z ≡ Send v a b
        of_pair ea eb v = ap (λ w. Send v w z) (sym ea) ∙ ap (λ w. Send v a w) (sym eb)

        by_number : a ≡ y → b ≡ z → (((k == i) && true) || has list (Send k a b)) ≡ nat_lt k (i + 1)
        by_number ea eb = ⊎_elim
            (λ (lt : k < i). or_right ((k == i) && true) (has list (Send k a b)) (before (Send k a b) p (by_item a refl (sym ea) lt)) ∙ sym (lt-ltb k (i + 1) (omega arith)))
            (λ (le : i ≤ k). ⊎_elim
            (λ (e : k ≡ i). ap (λ w. (w && true) || has list (Send k a b)) (eq-eqb k i e) ∙ sym (lt-ltb k (i + 1) (omega arith)))
            (λ (ne : k ≡ i → ⊥).
            let q : IsStep o (Send i a b) = subst (IsStep o) (of_pair ea eb i) step in
            let w : nat_lt i (below a b) ≡ false = sym (u.sends i a b q) ∙ (ap (λ v. has list v) (sym (of_pair ea eb i)) ∙ new) in
            let l : below a b ≤ i = ltb-false i (below a b) w in
            or_same ((k == i) && true) (has list (Send k a b)) (nat_lt k (i + 1)) (ap (λ v. v && true) (ne_eqb k i ne))
            (u.sends k a b p ∙ (le-ltb k (below a b) (omega arith) ∙ sym (le-ltb k (i + 1) (omega arith)))))
            (cases_eq k i))
            (cases_lt k i)
    sent (Recv i y z) step new before k a b p = u.sends k a b p
    sent (Begin i y z) step new before k a b p = u.sends k a b p
    sent (End i y z) step new before k a b p = u.sends k a b p
    sent (Join i) step new before k a b p = u.sends k a b p

    pub after_step : IsUnderWay o (list ++ (s ∷ [])) d.later (put_left r d.left rest) (drawn_number x) join (sent_after below s)
    after_step = record {
      accepted = subst (λ z. Accepted o z) (here ∙ sym (append_assoc list (s ∷ []) d.later)) u.accepted;
      turns = subst (λ z. DrawnFrom o (put_left r d.left rest) z (drawn_number x) d.later) (sym (pushed list s)) d.turns;
      planned = left_planned o rest r s d.left d.of_rank u.planned;
      joins = λ k lt f. has_push list s (Join k) ∙ or_same (same (Join k) s) (has list (Join k)) (nat_lt k join) (no_join k s mine.1) (u.joins k lt f);
      within = u.within;
      at = u.at;
      sends = λ k a b p. has_push list s (Send k a b) ∙ sent s mine.0 fresh (λ q step early. u.accepted.order list s d.later here q step early) k a b p;
    }
