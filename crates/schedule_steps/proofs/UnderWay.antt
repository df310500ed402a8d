-- What is open and under way in an accepted list.
use Rattle.std.proofs.Common.{◌≡◌, ◌<◌, ◌≤◌, ℕ, true, false, ◌⊎◌, inl, inr, refl, sym, ap, subst, ◌∙◌, arith, ⊎_elim, List, [], ◌∷◌, ◌++◌, append-nil, append_assoc}
use Rattle.std.specs.Prelude.{◌&&◌, ◌||◌, ◌==◌, not}
use Rattle.std.proofs.lemmas.Bool.{cases_eq, cases_lt, cases_Bool, false≢true, false_from_ne_true, and_parts, and_from, and_left, and_right, cond-true, cond-false, eqb-true, eq-eqb}
use Rattle.schedule_steps.specs.Outline.{Outline}
use Rattle.schedule_steps.specs.declared.step.Step.{Step}
use Rattle.schedule_steps.specs.declared.step.Step.TheVariants.{Send, Recv, Begin, End, Join}
use Rattle.schedule_steps.specs.Steps.{item, IsOf, IsStep, Earlier, by_item, sent, begun, same, has, Accepted}
use Rattle.schedule_steps.specs.Members.{same_true, has_left, has_at, has_push, split_at}
use Rattle.schedule_steps.specs.UnderWay.{is_open, without_oldest, queue_step, queue_after}

-- ---- rising lists of items
abbrev Among : List ℕ → ℕ → Type 0
Among [] k = ⊥
Among (j ∷ q) k = (j ≡ k) ⊎ Among q k

abbrev Rising : List ℕ → Type 0
Rising [] = Unit {0}
Rising (j ∷ q) = ((k : ℕ) → Among q k → j < k) × Rising q

among_push : (q : List ℕ) (k j : ℕ) → Among (q ++ (k ∷ [])) j → Among q j ⊎ (j ≡ k)
among_push [] k j h = ⊎_elim (λ e. inr (sym e)) (λ f. absurd f) h
among_push (i ∷ q) k j h = ⊎_elim (λ e. inl (inl e)) (λ t. ⊎_elim (λ a. inl (inr a)) (λ e. inr e) (among_push q k j t)) h

among_left : (q : List ℕ) (k j : ℕ) → Among q j → Among (q ++ (k ∷ [])) j
among_left [] k j h = absurd h
among_left (i ∷ q) k j h = ⊎_elim (λ e. inl e) (λ t. inr (among_left q k j t)) h

among_last : (q : List ℕ) (k : ℕ) → Among (q ++ (k ∷ [])) k
among_last [] k = inl refl
among_last (i ∷ q) k = inr (among_last q k)

rising_push : (q : List ℕ) (k : ℕ) → Rising q → ((j : ℕ) → Among q j → j < k) → Rising (q ++ (k ∷ []))
rising_push [] k h less = ((λ j f. absurd f), tt)
rising_push (i ∷ q) k h less = (
  (λ j a. ⊎_elim (λ t. h.0 j t) (λ e. subst (λ z. i < z) (sym e) (less i (inl refl))) (among_push q k j a)),
  rising_push q k h.1 (λ j a. less j (inr a)),
)

module _ (o : Outline) (l : List Step) (acc : Accepted o l) where
  -- what stands in a front of the list is of the plan, and has what is earlier before it
  pub planned : (pre post : List Step) → l ≡ pre ++ post → (t : Step) → has pre t ≡ true → IsStep o t
  planned pre post e t h =
      let a : (x : List Step) × (y : List Step) × (pre ≡ x ++ (t ∷ y)) = split_at pre t h in
      acc.steps a.0 t (a.1 ++ post) (e ∙ (ap (λ z. z ++ post) a.2 ∙ append_assoc a.0 (t ∷ a.1) post))

  closed : (pre post : List Step) → l ≡ pre ++ post → (t u : Step) → has pre t ≡ true → IsStep o u → Earlier o u t → has pre u ≡ true
  closed pre post e t u h plan early =
      let a : (x : List Step) × (y : List Step) × (pre ≡ x ++ (t ∷ y)) = split_at pre t h in
      subst (λ z. has z u ≡ true) (sym a.2)
      (has_left a.0 (t ∷ a.1) u (acc.order a.0 t (a.1 ++ post) (e ∙ (ap (λ z. z ++ post) a.2 ∙ append_assoc a.0 (t ∷ a.1) post)) u plan early))

  -- ---- open elements
  -- before a rank's step of item k, none of its elements is open in another item
  closed_elsewhere : (pre : List Step) (s : Step) (post : List Step) (r : ℕ) → l ≡ pre ++ (s ∷ post) → IsOf s r → (j f : ℕ) → (j ≡ item s → ⊥) → is_open pre j r f ≡ false
  closed_elsewhere pre s post r e of j f ne = ⊎_elim
      (λ (h : has pre (Begin j r f) ≡ true). ⊎_elim
      (λ (lt : j < item s).
      and_right (has pre (Begin j r f)) (not (has pre (End j r f)))
      (ap not (acc.order pre s post e (End j r f) (planned pre (s ∷ post) e (Begin j r f) h) (by_item r refl of lt))))
      (λ (le : item s ≤ j).
      absurd (false≢true (sym (acc.once pre s post e) ∙ closed pre (s ∷ post) e (Begin j r f) s h (acc.steps pre s post e) (by_item r of refl (omega arith)))))
      (cases_lt j (item s)))
      (λ (h : has pre (Begin j r f) ≡ false). and_left (has pre (Begin j r f)) (not (has pre (End j r f))) h)
      (cases_Bool (has pre (Begin j r f)))

  pub begins : (pre post : List Step) (k r x : ℕ) → l ≡ pre ++ (Begin k r x ∷ post) → (is_open pre k r x ≡ false) × ((j y : ℕ) → (j ≡ k → ⊥) → is_open pre j r y ≡ false)
  begins pre post k r x e = (
    and_left (has pre (Begin k r x)) (not (has pre (End k r x))) (acc.once pre (Begin k r x) post e),
    λ j y ne. closed_elsewhere pre (Begin k r x) post r e refl j y ne,
  )

  pub ends : (pre post : List Step) (k r x : ℕ) → l ≡ pre ++ (End k r x ∷ post) → (is_open pre k r x ≡ true) × ((j y : ℕ) → (j ≡ k → ⊥) → is_open pre j r y ≡ false)
  ends pre post k r x e = (
    ap (λ b. b && not (has pre (End k r x))) (acc.order pre (End k r x) post e (Begin k r x) (acc.steps pre (End k r x) post e) begun)
        ∙ ap not (acc.once pre (End k r x) post e),
    λ j y ne. closed_elsewhere pre (End k r x) post r e refl j y ne,
  )

  -- ---- messages
  -- q has the items of the messages from s to r that are under way after a front of the list
  record Queued (s r : ℕ) (pre : List Step) (q : List ℕ) : Type 0 where
    rising : Rising q
    there : (k : ℕ) → Among q k → (has pre (Send k s r) ≡ true) × (has pre (Recv k r s) ≡ false)
    all : (k : ℕ) → has pre (Send k s r) ≡ true → has pre (Recv k r s) ≡ false → Among q k

  pub unlike : (pre : List Step) (t u : Step) → (u ≡ t → ⊥) → has (pre ++ (t ∷ [])) u ≡ has pre u
  unlike pre t u ne = has_push pre t u ∙ ap (λ b. b || has pre u) (false_from_ne_true (same u t) (λ h. ne (same_true u t h)))

  -- a step that is of another queue, or of none
  kept : (s r : ℕ) (pre : List Step) (t : Step) (q : List ℕ) → ((j : ℕ) → Send j s r ≡ t → ⊥) → ((j : ℕ) → Recv j r s ≡ t → ⊥) → Queued s r pre q → Queued s r (pre ++ (t ∷ [])) q
  kept s r pre t q ns nr h = record {
    rising = h.rising;
    there = λ k a. (unlike pre t (Send k s r) (ns k) ∙ (h.there k a).0, unlike pre t (Recv k r s) (nr k) ∙ (h.there k a).1);
    all = λ k a b. h.all k (sym (unlike pre t (Send k s r) (ns k)) ∙ a) (sym (unlike pre t (Recv k r s) (nr k)) ∙ b);
  }

  pushed : (s r k : ℕ) (pre post : List Step) (q : List ℕ) → l ≡ pre ++ (Send k s r ∷ post) → Queued s r pre q → Queued s r (pre ++ (Send k s r ∷ [])) (q ++ (k ∷ []))
  pushed s r k pre post q e h = record {
    rising = rising_push q k h.rising (λ j a. ⊎_elim (λ lt. lt)
        (λ (le : k ≤ j). ⊎_elim
        (λ (i : j ≡ k). absurd (new (subst (λ z. has pre (Send z s r) ≡ true) i (h.there j a).0)))
        (λ (ne : j ≡ k → ⊥). absurd (new (closed pre (Send k s r ∷ post) e (Send j s r) (Send k s r) (h.there j a).0 plan (by_item s refl refl (omega arith)))))
        (cases_eq j k))
        (cases_lt j k));
    there = λ j a. ⊎_elim
        (λ b. (has_left pre (Send k s r ∷ []) (Send j s r) (h.there j b).0, unlike pre (Send k s r) (Recv j r s) (λ i. cc) ∙ (h.there j b).1))
        (λ i. subst (λ z. (has (pre ++ (Send k s r ∷ [])) (Send z s r) ≡ true) × (has (pre ++ (Send k s r ∷ [])) (Recv z r s) ≡ false)) (sym i) (
          has_at pre (Send k s r) [],
          unlike pre (Send k s r) (Recv k r s) (λ i. cc)
              ∙ false_from_ne_true (has pre (Recv k r s))
              (λ t. new (closed pre (Send k s r ∷ post) e (Recv k r s) (Send k s r) t plan sent)),
        ))
        (among_push q k j a);
    all = λ j a b. ⊎_elim
        (λ (i : j ≡ k). subst (Among (q ++ (k ∷ []))) (sym i) (among_last q k))
        (λ (ne : j ≡ k → ⊥).
        among_left q k j (h.all j (sym (unlike pre (Send k s r) (Send j s r) (λ i. ne (let m : j ≡ k = cc in m))) ∙ a) (sym (unlike pre (Send k s r) (Recv j r s) (λ i. cc)) ∙ b)))
        (cases_eq j k);
  }
    where
      plan : IsStep o (Send k s r)
      plan = acc.steps pre (Send k s r) post e

      new : has pre (Send k s r) ≡ true → ⊥
      new t = false≢true (sym (acc.once pre (Send k s r) post e) ∙ t)

  -- the oldest message is of the item that is received
  oldest : (s r k : ℕ) (pre post : List Step) (q : List ℕ) → l ≡ pre ++ (Recv k r s ∷ post) → Queued s r pre q → (rest : List ℕ) × (q ≡ k ∷ rest)
  oldest s r k pre post q e h = first q h (h.all k (acc.order pre (Recv k r s) post e (Send k s r) (acc.steps pre (Recv k r s) post e) sent) (acc.once pre (Recv k r s) post e))
    where
      first : (q : List ℕ) → Queued s r pre q → Among q k → (rest : List ℕ) × (q ≡ k ∷ rest)
      first [] h a = absurd a
      first (j ∷ q) h a = ⊎_elim
          (λ i. (q, ap (λ z. z ∷ q) i))
          (λ b.
          let lt : j < k = h.rising.0 k b in
          let t : (has pre (Send j s r) ≡ true) × (has pre (Recv j r s) ≡ false) = h.there j (inl refl) in
          absurd (false≢true (sym t.1 ∙ acc.order pre (Recv k r s) post e (Recv j r s) (planned pre (Recv k r s ∷ post) e (Send j s r) t.0) (by_item r refl refl lt))))
          a

  popped : (s r k : ℕ) (pre post : List Step) (q : List ℕ) → l ≡ pre ++ (Recv k r s ∷ post) → Queued s r pre (k ∷ q) → Queued s r (pre ++ (Recv k r s ∷ [])) q
  popped s r k pre post q e h = record {
    rising = h.rising.1;
    there = λ j a.
        let lt : k < j = h.rising.0 j a in (
          has_left pre (Recv k r s ∷ []) (Send j s r) (h.there j (inr a)).0,
          unlike pre (Recv k r s) (Recv j r s) (λ i. let m : j ≡ k = cc in omega arith) ∙ (h.there j (inr a)).1,
        );
    all = λ j a b. ⊎_elim
        (λ (i : k ≡ j). absurd (false≢true (sym b ∙ subst (λ z. has (pre ++ (Recv k r s ∷ [])) (Recv z r s) ≡ true) i (has_at pre (Recv k r s) []))))
        (λ t. t)
        (h.all j (sym (unlike pre (Recv k r s) (Send j s r) (λ i. cc)) ∙ a)
        (false_from_ne_true (has pre (Recv j r s)) (λ t. false≢true (sym b ∙ has_left pre (Recv k r s ∷ []) (Recv j r s) t))));
  }

  one_step : (s r : ℕ) (pre : List Step) (t : Step) (post : List Step) (q : List ℕ) → l ≡ pre ++ (t ∷ post) → Queued s r pre q → Queued s r (pre ++ (t ∷ [])) (queue_step s r t q)
  one_step s r pre (Send k a b) post q e h = ⊎_elim
      (λ (y : ((a == s) && (b == r)) ≡ true).
      let i : ((a == s) ≡ true) × ((b == r) ≡ true) = and_parts (a == s) (b == r) y in
      let m : Send k s r ≡ Send k a b = ap (λ z. Send k z r) (sym (eqb-true a s i.0)) ∙ ap (λ z. Send k a z) (sym (eqb-true b r i.1)) in
      subst (Queued s r (pre ++ (Send k a b ∷ []))) (sym (cond-true ((a == s) && (b == r)) (q ++ (k ∷ [])) q y))
      (subst (λ z. Queued s r (pre ++ (z ∷ [])) (q ++ (k ∷ []))) m (pushed s r k pre post q (e ∙ ap (λ z. pre ++ (z ∷ post)) (sym m)) h)))
      (λ (y : ((a == s) && (b == r)) ≡ false).
      subst (Queued s r (pre ++ (Send k a b ∷ []))) (sym (cond-false ((a == s) && (b == r)) (q ++ (k ∷ [])) q y))
      (kept s r pre (Send k a b) q
      (λ j i. let u : s ≡ a = cc in let v : r ≡ b = cc in false≢true (sym y ∙ both a b u v)) (λ j i. cc) h))
      (cases_Bool ((a == s) && (b == r)))
    where
      both : (a b : ℕ) → s ≡ a → r ≡ b → ((a == s) && (b == r)) ≡ true
      both a b u v = and_from (a == s) (b == r) (eq-eqb a s (sym u)) (eq-eqb b r (sym v))
  one_step s r pre (Recv k b a) post q e h = ⊎_elim
      (λ (y : ((a == s) && (b == r)) ≡ true).
      let i : ((a == s) ≡ true) × ((b == r) ≡ true) = and_parts (a == s) (b == r) y in
      let m : Recv k r s ≡ Recv k b a = ap (λ z. Recv k z s) (sym (eqb-true b r i.1)) ∙ ap (λ z. Recv k b z) (sym (eqb-true a s i.0)) in
      let f : l ≡ pre ++ (Recv k r s ∷ post) = e ∙ ap (λ z. pre ++ (z ∷ post)) (sym m) in
      let d : (rest : List ℕ) × (q ≡ k ∷ rest) = oldest s r k pre post q f h in
      subst (Queued s r (pre ++ (Recv k b a ∷ []))) (sym (cond-true ((a == s) && (b == r)) (without_oldest q) q y))
      (subst (λ z. Queued s r (pre ++ (z ∷ [])) (without_oldest q)) m
      (subst (λ z. Queued s r (pre ++ (Recv k r s ∷ [])) (without_oldest z)) (sym d.1) (popped s r k pre post d.0 f (subst (Queued s r pre) d.1 h)))))
      (λ (y : ((a == s) && (b == r)) ≡ false).
      subst (Queued s r (pre ++ (Recv k b a ∷ []))) (sym (cond-false ((a == s) && (b == r)) (without_oldest q) q y))
      (kept s r pre (Recv k b a) q
      (λ j i. cc) (λ j i. let u : s ≡ a = cc in let v : r ≡ b = cc in false≢true (sym y ∙ both a b u v)) h))
      (cases_Bool ((a == s) && (b == r)))
    where
      both : (a b : ℕ) → s ≡ a → r ≡ b → ((a == s) && (b == r)) ≡ true
      both a b u v = and_from (a == s) (b == r) (eq-eqb a s (sym u)) (eq-eqb b r (sym v))
  one_step s r pre (Begin k a x) post q e h = kept s r pre (Begin k a x) q (λ j i. cc) (λ j i. cc) h
  one_step s r pre (End k a x) post q e h = kept s r pre (End k a x) q (λ j i. cc) (λ j i. cc) h
  one_step s r pre (Join k) post q e h = kept s r pre (Join k) q (λ j i. cc) (λ j i. cc) h

  all_steps : (s r : ℕ) (xs done post : List Step) (q : List ℕ) → l ≡ done ++ (xs ++ post) → Queued s r done q → Queued s r (done ++ xs) (queue_after s r q xs)
  all_steps s r [] done post q e h = subst (λ z. Queued s r z q) (sym (append-nil done)) h
  all_steps s r (t ∷ xs) done post q e h =
      subst (λ z. Queued s r z (queue_after s r (queue_step s r t q) xs)) (append_assoc done (t ∷ []) xs)
      (all_steps s r xs (done ++ (t ∷ [])) post (queue_step s r t q) (e ∙ sym (append_assoc done (t ∷ []) (xs ++ post))) (one_step s r done t (xs ++ post) q e h))

  pub receives : (pre post : List Step) (k r s : ℕ) → l ≡ pre ++ (Recv k r s ∷ post) → (rest : List ℕ) × (queue_after s r [] pre ≡ k ∷ rest)
  receives pre post k r s e =
      oldest s r k pre post (queue_after s r [] pre) e
      (all_steps s r pre [] (Recv k r s ∷ post) [] e (record { rising = tt; there = λ j a. absurd a; all = λ j a b. absurd (false≢true a) }))
