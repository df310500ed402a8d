-- The drawn order is accepted, there is one for each seed, and there is no second.
use Rattle.std.proofs.Common.{◌≡◌, ℕ, zero, suc, ◌+◌, ◌<◌, Bool, true, false, cond, ◌⊎◌, inl, inr, refl, sym, ap, subst, ◌∙◌, arith, ⊎_elim, List, [], ◌∷◌, ◌++◌, length, append_assoc}
use Rattle.std.specs.Prelude.{◌&&◌, ◌||◌, ◌==◌, not}
use Rattle.std.proofs.lemmas.Bool.{cases_eq, false≢true, false_from_ne_true, cond-true, cond-false, eq-eqb, ne_eqb, or_left, and_right, not_from_true}
use Rattle.schedule_steps.specs.Outline.{Outline}
use Rattle.schedule_steps.specs.declared.step.Step.{Step}
use Rattle.schedule_steps.specs.declared.step.Step.TheVariants.{Send, Recv, Begin, End, Join}
use Rattle.schedule_steps.specs.Steps.{item, IsOf, IsStep, same, has, Accepted}
use Rattle.schedule_steps.specs.Members.{same_true, same_refl, has_push}
use Rattle.schedule_steps.specs.Turns.{Takes, marked, Turns, nothing_taken}
use Rattle.schedule_steps.specs.Standard.{one_if, tally}
use Rattle.schedule_steps.specs.Drawn.{own, next_join, is_early, drawn_number, Turn, Over, JoinOf, StepOf, turn, put_left, TakenBy, DrawnFrom, IsDrawn}
use Rattle.schedule_steps.proofs.ByTurns.{from_turns}
use Rattle.schedule_steps.proofs.Picks.{first_hit}
use Rattle.schedule_steps.proofs.Own.{is_join, own_mine}
use Rattle.schedule_steps.proofs.Ready.{one_rank, Stand, step_ready, past_taken, join_ready, Case, over, join, go, turn_case}

not_join : (k : ℕ) (t : Step) → is_join t ≡ false → same t (Join k) ≡ false
not_join k t j = false_from_ne_true (same t (Join k)) (λ h. false≢true (sym j ∙ ap is_join (same_true t (Join k) h)))

module _ (o : Outline) (g : ℕ) where
  begin_stand : Stand o g (own o g) nothing_taken
  begin_stand = record { past = λ r. []; parts = λ r lt. refl; marks = λ r t lt of j. refl }

  -- after a join
  join_stand : (rest : ℕ → List Step) (m : Step → Bool) (k : ℕ) → Stand o g rest m → Stand o g rest (marked (Join k) m)
  join_stand rest m k st = record {
    past = st.past;
    parts = st.parts;
    marks = λ r t lt of j. ap (λ b. b || m t) (not_join k t j) ∙ st.marks r t lt of j;
  }

  -- after a rank's next step
  step_stand : (rest : ℕ → List Step) (m : Step → Bool) (r : ℕ) (s : Step) (left : List Step) → r < o.ranks → rest r ≡ s ∷ left → Stand o g rest m → Stand o g (put_left r left rest) (marked s m)
  step_stand rest m r s left lr e st = record {
    past = λ x. cond (x == r) (st.past r ++ (s ∷ [])) (st.past x);
    parts = λ x lt. ⊎_elim
        (λ (i : x ≡ r).
        ap (own o g) i
        ∙ (cut
        ∙ (sym (append_assoc (st.past r) (s ∷ []) left)
        ∙ (ap (λ z. z ++ left) (sym (cond-true (x == r) (st.past r ++ (s ∷ [])) (st.past x) (eq-eqb x r i)))
        ∙ ap (λ z. cond (x == r) (st.past r ++ (s ∷ [])) (st.past x) ++ z) (sym (cond-true (x == r) left (rest x) (eq-eqb x r i)))))))
        (λ (ne : x ≡ r → ⊥).
        st.parts x lt
        ∙ (ap (λ z. z ++ rest x) (sym (cond-false (x == r) (st.past r ++ (s ∷ [])) (st.past x) (ne_eqb x r ne)))
        ∙ ap (λ z. cond (x == r) (st.past r ++ (s ∷ [])) (st.past x) ++ z) (sym (cond-false (x == r) left (rest x) (ne_eqb x r ne)))))
        (cases_eq x r);
    marks = λ x t lt of j. ⊎_elim
        (λ (i : x ≡ r).
        ap (λ b. same t s || b) (st.marks r t lr (subst (IsOf t) i of) j)
        ∙ (sym (has_push (st.past r) s t) ∙ ap (λ z. has z t) (sym (cond-true (x == r) (st.past r ++ (s ∷ [])) (st.past x) (eq-eqb x r i)))))
        (λ (ne : x ≡ r → ⊥).
        ap (λ b. b || m t) (false_from_ne_true (same t s) (λ h. ne (one_rank t x r j of (subst (λ z. IsOf z r) (sym (same_true t s h)) mine.1))))
        ∙ (st.marks x t lt of j ∙ ap (λ z. has z t) (sym (cond-false (x == r) (st.past r ++ (s ∷ [])) (st.past x) (ne_eqb x r ne)))))
        (cases_eq x r);
  }
    where
      cut : own o g r ≡ st.past r ++ (s ∷ left)
      cut = st.parts r lr ∙ ap (λ z. st.past r ++ z) e

      mine : IsStep o s × IsOf s r × (is_join s ≡ false)
      mine = own_mine o g r lr (st.past r) s left cut

  -- ---- acceptance
  took : (rest : ℕ → List Step) (m : Step → Bool) (st : Stand o g rest m) (s : Step) (l : List Step) (t : Turn) → Case o g rest m st t
      → (J : Type 0) (S : ℕ → List Step → Type 0) → TakenBy rest s t J S
      → (J → (k : ℕ) → s ≡ Join k → Turns o (marked s m) l)
      → ((r : ℕ) (left : List Step) → r < o.ranks → rest r ≡ s ∷ left → S r left → Turns o (marked s m) l)
      → Turns o m (s ∷ l)
  took rest m st s l t (over e none le) J S h by_join by_step = absurd (subst (λ z. TakenBy rest s z J S) e h)
  took rest m st s l t (join e none lt) J S h by_join by_step =
      let x : (s ≡ Join (next_join o m)) × J = subst (λ z. TakenBy rest s z J S) e h in
      (subst (Takes o m) (sym x.0) (join_ready o g rest m st none lt), by_join x.1 (next_join o m) x.0)
  took rest m st s l t (go r e lr early free) J S h by_join by_step =
      let x : (left : List Step) × (rest r ≡ s ∷ left) × S r left = subst (λ z. TakenBy rest s z J S) e h in
      (step_ready o g rest m st r s x.0 lr x.1 early free, by_step r x.0 lr x.1 x.2)

  all_taken : (rest : ℕ → List Step) (m : Step → Bool) (st : Stand o g rest m) (t : Turn) → Case o g rest m st t → t ≡ Over → (s : Step) → IsStep o s → m s ≡ true
  all_taken rest m st t (over e none le) i s plan = past_taken o g rest m st none s plan (let lt : item s < o.items = item_below s plan in omega arith)
    where
      item_below : (s : Step) → IsStep o s → item s < o.items
      item_below (Send a b c) h = h.0
      item_below (Recv a b c) h = h.0
      item_below (Begin a b c) h = h.0
      item_below (End a b c) h = h.0
      item_below (Join a) h = h.0
  all_taken rest m st t (join e none lt) i s plan = (let j : JoinOf (next_join o m) ≡ Over = sym e ∙ i in cc)
  all_taken rest m st t (go r e lr early free) i s plan = (let j : StepOf r ≡ Over = sym e ∙ i in cc)

  drawn_turns : (l : List Step) (rest : ℕ → List Step) (m : Step → Bool) (x : ℕ) → Stand o g rest m → DrawnFrom o rest m x l → Turns o m l
  drawn_turns [] rest m x st h = all_taken rest m st (turn o rest m x) (turn_case o g rest m st x) h
  drawn_turns (s ∷ l) rest m x st h = took rest m st s l (turn o rest m x) (turn_case o g rest m st x) (DrawnFrom o rest (marked s m) x l)
      (λ r left. DrawnFrom o (put_left r left rest) (marked s m) (drawn_number x) l) h
      (λ j k e. drawn_turns l rest (marked s m) x (subst (λ z. Stand o g rest (marked z m)) (sym e) (join_stand rest m k st)) j)
      (λ r left lr e d. drawn_turns l (put_left r left rest) (marked s m) (drawn_number x) (step_stand rest m r s left lr e st) d)

  pub drawn_accepted : (seed : ℕ) (l : List Step) → IsDrawn o g seed l → Accepted o l
  drawn_accepted seed l h = from_turns o l (drawn_turns l (own o g) nothing_taken seed begin_stand h)

  -- ---- there is no second
  same_take : (rest : ℕ → List Step) (s u : Step) (t : Turn) (J K : Type 0) (S U : ℕ → List Step → Type 0) → TakenBy rest s t J S → TakenBy rest u t K U
      → (s ≡ u) × ((J × K) ⊎ ((r : ℕ) × (left : List Step) × S r left × U r left))
  same_take rest s u Over J K S U h i = absurd h
  same_take rest s u (JoinOf k) J K S U h i = (h.0 ∙ sym i.0, inl (h.1, i.1))
  same_take rest s u (StepOf r) J K S U h i =
      let e : s ∷ h.0 ≡ u ∷ i.0 = sym h.1 ∙ i.1 in
      let a : s ≡ u = cc in
      let b : i.0 ≡ h.0 = cc in
      (a, inr (r, h.0, h.2, subst (U r) b i.2))

  none_over : (rest : ℕ → List Step) (s : Step) (t : Turn) (J : Type 0) (S : ℕ → List Step → Type 0) → t ≡ Over → TakenBy rest s t J S → ⊥
  none_over rest s t J S e h = subst (λ z. TakenBy rest s z J S) e h

  pub drawn_once : (l n : List Step) (rest : ℕ → List Step) (m : Step → Bool) (x : ℕ) → DrawnFrom o rest m x l → DrawnFrom o rest m x n → l ≡ n
  drawn_once [] [] rest m x h i = refl
  drawn_once [] (u ∷ n) rest m x h i = absurd
      (none_over rest u (turn o rest m x) (DrawnFrom o rest (marked u m) x n)
      (λ r left. DrawnFrom o (put_left r left rest) (marked u m) (drawn_number x) n) h i)
  drawn_once (s ∷ l) [] rest m x h i = absurd
      (none_over rest s (turn o rest m x) (DrawnFrom o rest (marked s m) x l)
      (λ r left. DrawnFrom o (put_left r left rest) (marked s m) (drawn_number x) l) i h)
  drawn_once (s ∷ l) (u ∷ n) rest m x h i =
      let both : (s ≡ u) × ((DrawnFrom o rest (marked s m) x l × DrawnFrom o rest (marked u m) x n)
      ⊎ ((r : ℕ) × (left : List Step) × DrawnFrom o (put_left r left rest) (marked s m) (drawn_number x) l
      × DrawnFrom o (put_left r left rest) (marked u m) (drawn_number x) n)) =
      same_take rest s u (turn o rest m x) (DrawnFrom o rest (marked s m) x l) (DrawnFrom o rest (marked u m) x n)
      (λ r left. DrawnFrom o (put_left r left rest) (marked s m) (drawn_number x) l)
      (λ r left. DrawnFrom o (put_left r left rest) (marked u m) (drawn_number x) n) h i in
      ap (λ z. z ∷ l) both.0
      ∙ ap (λ z. u ∷ z) (⊎_elim
      (λ (a : DrawnFrom o rest (marked s m) x l × DrawnFrom o rest (marked u m) x n). drawn_once l n rest (marked s m) x a.0 (subst (λ z. DrawnFrom o rest (marked z m) x n) (sym both.0) a.1))
      (λ (a : (r : ℕ) × (left : List Step) × DrawnFrom o (put_left r left rest) (marked s m) (drawn_number x) l × DrawnFrom o (put_left r left rest) (marked u m) (drawn_number x) n).
      drawn_once l n (put_left a.0 a.1 rest) (marked s m) (drawn_number x) a.2 (subst (λ z. DrawnFrom o (put_left a.0 a.1 rest) (marked z m) (drawn_number x) n) (sym both.0) a.3))
      both.1)

  -- ---- there is one: the steps left grow fewer
  abbrev lengths : (ℕ → List Step) → ℕ → ℕ
  lengths rest zero = 0
  lengths rest (suc n) = lengths rest n + length (rest n)

  abbrev joins_left : (Step → Bool) → ℕ → ℕ
  joins_left m n = tally (λ j. not (o.is_free j) && not (m (Join j))) n

  lengths_same : (a b : ℕ → List Step) (n : ℕ) → ((i : ℕ) → i < n → a i ≡ b i) → lengths a n ≡ lengths b n
  lengths_same a b zero h = refl
  lengths_same a b (suc n) h =
      let e : lengths a n ≡ lengths b n = lengths_same a b n (λ i lt. h i (omega arith)) in
      let f : length (a n) ≡ length (b n) = ap length (h n (omega arith)) in omega arith

  lengths_put : (rest : ℕ → List Step) (r : ℕ) (s : Step) (left : List Step) (n : ℕ) → r < n → rest r ≡ s ∷ left → suc (lengths (put_left r left rest) n) ≡ lengths rest n
  lengths_put rest r s left zero lt e = absurd (omega arith)
  lengths_put rest r s left (suc n) lt e = ⊎_elim
      (λ (i : r ≡ n).
      let a : lengths (put_left r left rest) n ≡ lengths rest n = lengths_same (put_left r left rest) rest n (λ x lx. cond-false (x == r) left (rest x) (ne_eqb x r (λ y. omega arith))) in
      let b : length (put_left r left rest n) ≡ length left = ap length (cond-true (n == r) left (rest n) (eq-eqb n r (sym i))) in
      let c : length (rest n) ≡ suc (length left) = ap length (ap rest (sym i) ∙ e) in omega arith)
      (λ (ne : r ≡ n → ⊥).
      let a : suc (lengths (put_left r left rest) n) ≡ lengths rest n = lengths_put rest r s left n (omega arith) e in
      let b : length (put_left r left rest n) ≡ length (rest n) = ap length (cond-false (n == r) left (rest n) (ne_eqb n r (λ y. ne (sym y)))) in omega arith)
      (cases_eq r n)

  tally_same : (t u : ℕ → Bool) (n : ℕ) → ((i : ℕ) → i < n → t i ≡ u i) → tally t n ≡ tally u n
  tally_same t u zero h = refl
  tally_same t u (suc n) h =
      let e : tally t n ≡ tally u n = tally_same t u n (λ i lt. h i (omega arith)) in
      let f : one_if (t n) ≡ one_if (u n) = ap one_if (h n (omega arith)) in omega arith

  tally_less : (t u : ℕ → Bool) (k n : ℕ) → k < n → t k ≡ true → u k ≡ false → ((i : ℕ) → (i ≡ k → ⊥) → u i ≡ t i) → suc (tally u n) ≡ tally t n
  tally_less t u k zero lt tk uk other = absurd (omega arith)
  tally_less t u k (suc n) lt tk uk other = ⊎_elim
      (λ (i : k ≡ n).
      let a : tally u n ≡ tally t n = tally_same u t n (λ x lx. other x (λ y. omega arith)) in
      let b : one_if (u n) ≡ 0 = ap (λ z. one_if (u z)) (sym i) ∙ ap one_if uk in
      let c : one_if (t n) ≡ 1 = ap (λ z. one_if (t z)) (sym i) ∙ ap one_if tk in omega arith)
      (λ (ne : k ≡ n → ⊥).
      let a : suc (tally u n) ≡ tally t n = tally_less t u k n (omega arith) tk uk other in
      let b : one_if (u n) ≡ one_if (t n) = ap one_if (other n (λ y. ne (sym y))) in omega arith)
      (cases_eq k n)

  -- marking a rank's step leaves the joins
  joins_step : (m : Step → Bool) (s : Step) (n : ℕ) → is_join s ≡ false → joins_left (marked s m) n ≡ joins_left m n
  joins_step m s n j = tally_same (λ i. not (o.is_free i) && not (marked s m (Join i))) (λ i. not (o.is_free i) && not (m (Join i))) n
      (λ i lt. ap (λ b. not (o.is_free i) && not (b || m (Join i))) (false_from_ne_true (same (Join i) s) (λ h. false≢true (sym j ∙ ap is_join (sym (same_true (Join i) s h))))))

  joins_join : (m : Step → Bool) → next_join o m < o.items → suc (joins_left (marked (Join (next_join o m)) m) o.items) ≡ joins_left m o.items
  joins_join m lt = tally_less (λ i. not (o.is_free i) && not (m (Join i))) (λ i. not (o.is_free i) && not (marked (Join (next_join o m)) m (Join i))) (next_join o m) o.items lt
      (first_hit (λ i. not (o.is_free i) && not (m (Join i))) o.items lt)
      (and_right (not (o.is_free (next_join o m))) (not (marked (Join (next_join o m)) m (Join (next_join o m))))
      (not_from_true (marked (Join (next_join o m)) m (Join (next_join o m)))
      (or_left (same (Join (next_join o m)) (Join (next_join o m))) (m (Join (next_join o m))) (same_refl (Join (next_join o m))))))
      (λ i ne. ap (λ b. not (o.is_free i) && not (b || m (Join i))) (ne_eqb i (next_join o m) ne))

  abbrev steps_left : (ℕ → List Step) → (Step → Bool) → ℕ
  steps_left rest m = lengths rest o.ranks + joins_left m o.items

  has_next : (rest : ℕ → List Step) (m : Step → Bool) (r : ℕ) (l : List Step) → rest r ≡ l → is_early (next_join o m) (rest r) ≡ true → (s : Step) × (left : List Step) × (rest r ≡ s ∷ left)
  has_next rest m r [] e early = absurd (false≢true (ap (is_early (next_join o m)) (sym e) ∙ early))
  has_next rest m r (s ∷ left) e early = (s, left, e)

  -- the turns that are left, where the turns after this one are known to end
  go_on : (rest : ℕ → List Step) (m : Step → Bool) (x : ℕ) (st : Stand o g rest m) (n : ℕ) → steps_left rest m ≡ n
      → ((rest1 : ℕ → List Step) (m1 : Step → Bool) (x1 : ℕ) → Stand o g rest1 m1 → suc (steps_left rest1 m1) ≡ n → (l : List Step) × DrawnFrom o rest1 m1 x1 l)
      → Case o g rest m st (turn o rest m x) → (l : List Step) × DrawnFrom o rest m x l
  go_on rest m x st n e more (over i none le) = ([], i)
  go_on rest m x st n e more (join i none lt) =
      let tail : (l : List Step) × DrawnFrom o rest (marked (Join (next_join o m)) m) x l = more rest (marked (Join (next_join o m)) m) x (join_stand rest m (next_join o m) st)
      (let a : suc (joins_left (marked (Join (next_join o m)) m) o.items) ≡ joins_left m o.items = joins_join m lt in omega arith) in (
        Join (next_join o m) ∷ tail.0,
        subst
            (λ z. TakenBy rest (Join (next_join o m)) z (DrawnFrom o rest (marked (Join (next_join o m)) m) x tail.0)
            (λ r left. DrawnFrom o (put_left r left rest) (marked (Join (next_join o m)) m) (drawn_number x) tail.0)) (sym i) (refl, tail.1),
      )
  go_on rest m x st n e more (go r i lr early free) =
      let h : (s : Step) × (left : List Step) × (rest r ≡ s ∷ left) = has_next rest m r (rest r) refl early in
      let mine : IsStep o h.0 × IsOf h.0 r × (is_join h.0 ≡ false) = own_mine o g r lr (st.past r) h.0 h.1 (st.parts r lr ∙ ap (λ z. st.past r ++ z) h.2) in
      let tail : (l : List Step) × DrawnFrom o (put_left r h.1 rest) (marked h.0 m) (drawn_number x) l =
      more (put_left r h.1 rest) (marked h.0 m) (drawn_number x) (step_stand rest m r h.0 h.1 lr h.2 st)
      (let a : joins_left (marked h.0 m) o.items ≡ joins_left m o.items = joins_step m h.0 o.items mine.2 in
      let b : suc (lengths (put_left r h.1 rest) o.ranks) ≡ lengths rest o.ranks = lengths_put rest r h.0 h.1 o.ranks lr h.2 in omega arith) in (
        h.0 ∷ tail.0,
        subst (λ z. TakenBy rest h.0 z (DrawnFrom o rest (marked h.0 m) x tail.0)
            (λ r left. DrawnFrom o (put_left r left rest) (marked h.0 m) (drawn_number x) tail.0)) (sym i) (h.1, h.2, tail.1),
      )

  drawn_all : (n : ℕ) (rest : ℕ → List Step) (m : Step → Bool) (x : ℕ) → Stand o g rest m → steps_left rest m ≡ n → (l : List Step) × DrawnFrom o rest m x l
  drawn_all zero rest m x st e = go_on rest m x st zero e (λ rest1 m1 x1 st1 e1. absurd (omega arith)) (turn_case o g rest m st x)
  drawn_all (suc n) rest m x st e = go_on rest m x st (suc n) e (λ rest1 m1 x1 st1 e1. drawn_all n rest1 m1 x1 st1 (omega arith)) (turn_case o g rest m st x)

  pub drawn_exists : (seed : ℕ) → (l : List Step) × IsDrawn o g seed l
  drawn_exists seed = drawn_all (steps_left (own o g) nothing_taken) (own o g) nothing_taken seed begin_stand refl
