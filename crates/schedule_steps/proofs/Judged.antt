-- The tests decide what they test.
use Rattle.std.proofs.Common.{◌≡◌, ℕ, Bool, true, false, ◌⊎◌, inl, inr, refl, sym, ap, subst, ◌∙◌, ⊎_elim, Option, Some, None, List, [], ◌∷◌, ◌++◌}
use Rattle.std.specs.Prelude.{◌&&◌, ◌==◌, nat_lt, not, is_none, ◌↔◌}
use Rattle.std.proofs.lemmas.Bool.{cases_Bool, false≢true, false_from_ne_true, or_cases, or_left, or_right, and_parts, and_from, cond-true, cond-false, eqb-true, eq-eqb, ltb-true, lt-ltb, not_from_false, not_from_true, not-true}
use Rattle.schedule_steps.specs.Outline.{Outline, runs, by_colour}
use Rattle.schedule_steps.specs.declared.step.Step.{Step}
use Rattle.schedule_steps.specs.declared.step.Step.TheVariants.{Send, Recv, Begin, End, Join}
use Rattle.schedule_steps.specs.Steps.{item, IsOf, IsStep, Passes, Executes, Earlier, by_item, sent, sent_first, received, begun, coloured, same, has, Accepted}
use Rattle.schedule_steps.specs.Members.{same3_true, same3_refl, same_true, same_refl, split_at}
use Rattle.schedule_steps.specs.Turns.{Takes, marked, Turns, nothing_taken}
use Rattle.schedule_steps.specs.Standard.{standard}
use Rattle.schedule_steps.specs.Judged.{is_step, rank_of, share_rank, is_earlier_in_item, is_earlier, first_of, missing, may_take, left_over, takes_all, is_accepted}
use Rattle.schedule_steps.proofs.ByTurns.{by_turns}
use Rattle.schedule_steps.proofs.Standard.{accepted}

-- ---- steps of the plan
module _ (o : Outline) where
  passes : (k s r : ℕ) → (nat_lt k o.items && (o.is_free k && (nat_lt s o.ranks && (nat_lt r o.ranks && o.sends k s r)))) ≡ true → Passes o k s r
  passes k s r h =
      let a : (nat_lt k o.items ≡ true) × ((o.is_free k && (nat_lt s o.ranks && (nat_lt r o.ranks && o.sends k s r))) ≡ true) =
      and_parts (nat_lt k o.items) (o.is_free k && (nat_lt s o.ranks && (nat_lt r o.ranks && o.sends k s r))) h in
      let b : (o.is_free k ≡ true) × ((nat_lt s o.ranks && (nat_lt r o.ranks && o.sends k s r)) ≡ true) = and_parts (o.is_free k) (nat_lt s o.ranks && (nat_lt r o.ranks && o.sends k s r)) a.1 in
      let c : (nat_lt s o.ranks ≡ true) × ((nat_lt r o.ranks && o.sends k s r) ≡ true) = and_parts (nat_lt s o.ranks) (nat_lt r o.ranks && o.sends k s r) b.1 in
      let d : (nat_lt r o.ranks ≡ true) × (o.sends k s r ≡ true) = and_parts (nat_lt r o.ranks) (o.sends k s r) c.1 in
      (ltb-true k o.items a.0, b.0, ltb-true s o.ranks c.0, ltb-true r o.ranks d.0, d.1)

  is_passed : (k s r : ℕ) → Passes o k s r → (nat_lt k o.items && (o.is_free k && (nat_lt s o.ranks && (nat_lt r o.ranks && o.sends k s r)))) ≡ true
  is_passed k s r h = and_from (nat_lt k o.items) (o.is_free k && (nat_lt s o.ranks && (nat_lt r o.ranks && o.sends k s r))) (lt-ltb k o.items h.0)
      (and_from (o.is_free k) (nat_lt s o.ranks && (nat_lt r o.ranks && o.sends k s r)) h.1
      (and_from (nat_lt s o.ranks) (nat_lt r o.ranks && o.sends k s r) (lt-ltb s o.ranks h.2) (and_from (nat_lt r o.ranks) (o.sends k s r) (lt-ltb r o.ranks h.3) h.4)))

  executes : (k r e : ℕ) → (nat_lt k o.items && (o.is_free k && (nat_lt r o.ranks && runs o k r e))) ≡ true → Executes o k r e
  executes k r e h =
      let a : (nat_lt k o.items ≡ true) × ((o.is_free k && (nat_lt r o.ranks && runs o k r e)) ≡ true) = and_parts (nat_lt k o.items) (o.is_free k && (nat_lt r o.ranks && runs o k r e)) h in
      let b : (o.is_free k ≡ true) × ((nat_lt r o.ranks && runs o k r e) ≡ true) = and_parts (o.is_free k) (nat_lt r o.ranks && runs o k r e) a.1 in
      let c : (nat_lt r o.ranks ≡ true) × (runs o k r e ≡ true) = and_parts (nat_lt r o.ranks) (runs o k r e) b.1 in
      (ltb-true k o.items a.0, b.0, ltb-true r o.ranks c.0, c.1)

  is_executed : (k r e : ℕ) → Executes o k r e → (nat_lt k o.items && (o.is_free k && (nat_lt r o.ranks && runs o k r e))) ≡ true
  is_executed k r e h = and_from (nat_lt k o.items) (o.is_free k && (nat_lt r o.ranks && runs o k r e)) (lt-ltb k o.items h.0)
      (and_from (o.is_free k) (nat_lt r o.ranks && runs o k r e) h.1 (and_from (nat_lt r o.ranks) (runs o k r e) (lt-ltb r o.ranks h.2) h.3))

  step_from : (s : Step) → is_step o s ≡ true → IsStep o s
  step_from (Send k s r) h = passes k s r h
  step_from (Recv k r s) h = passes k s r h
  step_from (Begin k r e) h = executes k r e h
  step_from (End k r e) h = executes k r e h
  step_from (Join k) h = let a : (nat_lt k o.items ≡ true) × (not (o.is_free k) ≡ true) = and_parts (nat_lt k o.items) (not (o.is_free k)) h in (ltb-true k o.items a.0, not-true (o.is_free k) a.1)

  step_to : (s : Step) → IsStep o s → is_step o s ≡ true
  step_to (Send k s r) h = is_passed k s r h
  step_to (Recv k r s) h = is_passed k s r h
  step_to (Begin k r e) h = is_executed k r e h
  step_to (End k r e) h = is_executed k r e h
  step_to (Join k) h = and_from (nat_lt k o.items) (not (o.is_free k)) (lt-ltb k o.items h.0) (not_from_false (o.is_free k) h.1)

  pub step_test : (s : Step) → (is_step o s ≡ true) ↔ IsStep o s
  step_test s = (step_from s, step_to s)

-- ---- earlier steps
is_of : (t : Step) (r : ℕ) → rank_of t ≡ Some r → IsOf t r
is_of (Send k s x) r h = cc
is_of (Recv k x s) r h = cc
is_of (Begin k x e) r h = cc
is_of (End k x e) r h = cc
is_of (Join k) r h = tt

of_all : (t : Step) (r : ℕ) → rank_of t ≡ None → IsOf t r
of_all (Send k s x) r h = cc
of_all (Recv k x s) r h = cc
of_all (Begin k x e) r h = cc
of_all (End k x e) r h = cc
of_all (Join k) r h = tt

rank_is : (t : Step) (r : ℕ) → IsOf t r → (rank_of t ≡ None) ⊎ (rank_of t ≡ Some r)
rank_is (Send k s x) r h = inr (ap Some h)
rank_is (Recv k x s) r h = inr (ap Some h)
rank_is (Begin k x e) r h = inr (ap Some h)
rank_is (End k x e) r h = inr (ap Some h)
rank_is (Join k) r h = inl refl

shared_rank : (t s : Step) (a b : Option ℕ) → rank_of t ≡ a → rank_of s ≡ b → share_rank a b ≡ true → (r : ℕ) × IsOf t r × IsOf s r
shared_rank t s (Some a) (Some b) i j h = (a, is_of t a i, is_of s a (j ∙ ap Some (sym (eqb-true a b h))))
shared_rank t s (Some a) None i j h = (a, is_of t a i, of_all s a j)
shared_rank t s None (Some b) i j h = (b, of_all t b i, is_of s b j)
shared_rank t s None None i j h = (0, of_all t 0 i, of_all s 0 j)

same_share : (a b : Option ℕ) (r : ℕ) → (a ≡ None) ⊎ (a ≡ Some r) → (b ≡ None) ⊎ (b ≡ Some r) → share_rank a b ≡ true
same_share None b r h i = refl
same_share (Some a) None r h i = refl
same_share (Some a) (Some b) r h i = ⊎_elim
    (λ u. cc)
    (λ u. ⊎_elim (λ v. cc) (λ v. (let x : a ≡ r = cc in let y : b ≡ r = cc in eq-eqb a b (x ∙ sym y))) i)
    h

module _ (o : Outline) where
  in_item_from : (t s : Step) → is_earlier_in_item o t s ≡ true → Earlier o t s
  in_item_from (Send k s r) (Recv j b a) h =
      let e : (k ≡ j) × (s ≡ a) × (r ≡ b) = same3_true k s r j a b h in
      subst (λ z. Earlier o (Send k s r) (Recv z b a)) e.0 (subst (λ z. Earlier o (Send k s r) (Recv k b z)) e.1 (subst (λ z. Earlier o (Send k s r) (Recv k z s)) e.2 sent))
  in_item_from (Send k s r) (Begin j a e) h =
      let u : ((k == j) ≡ true) × ((s == a) ≡ true) = and_parts (k == j) (s == a) h in
      subst (λ z. Earlier o (Send k s r) (Begin z a e)) (eqb-true k j u.0) (subst (λ z. Earlier o (Send k s r) (Begin k z e)) (eqb-true s a u.1) sent_first)
  in_item_from (Recv k r s) (Begin j a e) h =
      let u : ((k == j) ≡ true) × (((r == a) && not (o.is_core k r e)) ≡ true) = and_parts (k == j) ((r == a) && not (o.is_core k r e)) h in
      let v : ((r == a) ≡ true) × (not (o.is_core k r e) ≡ true) = and_parts (r == a) (not (o.is_core k r e)) u.1 in
      subst (λ z. Earlier o (Recv k r s) (Begin z a e)) (eqb-true k j u.0) (subst (λ z. Earlier o (Recv k r s) (Begin k z e)) (eqb-true r a v.0) (received (not-true (o.is_core k r e) v.1)))
  in_item_from (Begin k r e) (End j a f) h =
      let u : (k ≡ j) × (r ≡ a) × (e ≡ f) = same3_true k r e j a f h in
      subst (λ z. Earlier o (Begin k r e) (End z a f)) u.0 (subst (λ z. Earlier o (Begin k r e) (End k z f)) u.1 (subst (λ z. Earlier o (Begin k r e) (End k r z)) u.2 begun))
  in_item_from (End k r e) (Begin j a f) h =
      let u : ((k == j) ≡ true) × (((r == a) && by_colour o k r e f) ≡ true) = and_parts (k == j) ((r == a) && by_colour o k r e f) h in
      let v : ((r == a) ≡ true) × (by_colour o k r e f ≡ true) = and_parts (r == a) (by_colour o k r e f) u.1 in
      subst (λ z. Earlier o (End k r e) (Begin z a f)) (eqb-true k j u.0) (subst (λ z. Earlier o (End k r e) (Begin k z f)) (eqb-true r a v.0) (coloured v.1))
  in_item_from (Send a b c) (Send x y z) h = absurd (false≢true h)
  in_item_from (Send a b c) (End x y z) h = absurd (false≢true h)
  in_item_from (Send a b c) (Join x) h = absurd (false≢true h)
  in_item_from (Recv a b c) (Send x y z) h = absurd (false≢true h)
  in_item_from (Recv a b c) (Recv x y z) h = absurd (false≢true h)
  in_item_from (Recv a b c) (End x y z) h = absurd (false≢true h)
  in_item_from (Recv a b c) (Join x) h = absurd (false≢true h)
  in_item_from (Begin a b c) (Send x y z) h = absurd (false≢true h)
  in_item_from (Begin a b c) (Recv x y z) h = absurd (false≢true h)
  in_item_from (Begin a b c) (Begin x y z) h = absurd (false≢true h)
  in_item_from (Begin a b c) (Join x) h = absurd (false≢true h)
  in_item_from (End a b c) (Send x y z) h = absurd (false≢true h)
  in_item_from (End a b c) (Recv x y z) h = absurd (false≢true h)
  in_item_from (End a b c) (End x y z) h = absurd (false≢true h)
  in_item_from (End a b c) (Join x) h = absurd (false≢true h)
  in_item_from (Join a) s h = absurd (false≢true h)

  earlier_from : (t s : Step) → is_earlier o t s ≡ true → Earlier o t s
  earlier_from t s h = ⊎_elim
      (λ u.
      let v : (nat_lt (item t) (item s) ≡ true) × (share_rank (rank_of t) (rank_of s) ≡ true) = and_parts (nat_lt (item t) (item s)) (share_rank (rank_of t) (rank_of s)) u in
      let r : (r : ℕ) × IsOf t r × IsOf s r = shared_rank t s (rank_of t) (rank_of s) refl refl v.1 in
      by_item r.0 r.1 r.2 (ltb-true (item t) (item s) v.0))
      (λ u. in_item_from t s u)
      (or_cases (nat_lt (item t) (item s) && share_rank (rank_of t) (rank_of s)) (is_earlier_in_item o t s) h)

  in_item : (t s : Step) → is_earlier_in_item o t s ≡ true → is_earlier o t s ≡ true
  in_item t s h = or_right (nat_lt (item t) (item s) && share_rank (rank_of t) (rank_of s)) (is_earlier_in_item o t s) h

  earlier_to : (t s : Step) → Earlier o t s → is_earlier o t s ≡ true
  earlier_to t s (by_item r a b lt) = or_left (nat_lt (item t) (item s) && share_rank (rank_of t) (rank_of s)) (is_earlier_in_item o t s)
      (and_from (nat_lt (item t) (item s)) (share_rank (rank_of t) (rank_of s)) (lt-ltb (item t) (item s) lt) (same_share (rank_of t) (rank_of s) r (rank_is t r a) (rank_is s r b)))
  earlier_to _ _ (sent {k} {s} {r}) = in_item (Send k s r) (Recv k r s) (same3_refl k s r)
  earlier_to _ _ (sent_first {k} {s} {r} {e}) = in_item (Send k s r) (Begin k s e) (and_from (k == k) (s == s) (eq-eqb k k refl) (eq-eqb s s refl))
  earlier_to _ _ (received {k} {r} {s} {e} h) = in_item (Recv k r s) (Begin k r e)
      (and_from (k == k) ((r == r) && not (o.is_core k r e)) (eq-eqb k k refl) (and_from (r == r) (not (o.is_core k r e)) (eq-eqb r r refl) (not_from_false (o.is_core k r e) h)))
  earlier_to _ _ (begun {k} {r} {e}) = in_item (Begin k r e) (End k r e) (same3_refl k r e)
  earlier_to _ _ (coloured {k} {r} {e} {f} h) = in_item (End k r e) (Begin k r f)
      (and_from (k == k) ((r == r) && by_colour o k r e f) (eq-eqb k k refl) (and_from (r == r) (by_colour o k r e f) (eq-eqb r r refl) h))

  pub earlier_test : (t s : Step) → (is_earlier o t s ≡ true) ↔ Earlier o t s
  earlier_test t s = (earlier_from t s, earlier_to t s)

-- ---- the first of a list
first_is : (f : Step → Bool) (l : List Step) (t : Step) → first_of f l ≡ Some t → (has l t ≡ true) × (f t ≡ true)
first_is f [] t h = (cc, cc)
first_is f (s ∷ l) t h = ⊎_elim
    (λ (u : f s ≡ true).
    let e : s ≡ t = (let z : Some s ≡ Some t = sym (cond-true (f s) (Some s) (first_of f l) u) ∙ h in cc) in
    (or_left (same t s) (has l t) (subst (λ z. same t z ≡ true) (sym e) (same_refl t)), ap f (sym e) ∙ u))
    (λ (u : f s ≡ false).
    let r : (has l t ≡ true) × (f t ≡ true) = first_is f l t (sym (cond-false (f s) (Some s) (first_of f l) u) ∙ h) in
    (or_right (same t s) (has l t) r.0, r.1))
    (cases_Bool (f s))

none_is : {A : Type 0} (x : Option A) → is_none x ≡ true → x ≡ None
none_is None h = refl
none_is (Some a) h = absurd (false≢true h)

first_none : (f : Step → Bool) (l : List Step) → first_of f l ≡ None → (t : Step) → has l t ≡ true → f t ≡ false
first_none f [] h t i = absurd (false≢true i)
first_none f (s ∷ l) h t i = ⊎_elim
    (λ (u : f s ≡ true). (let z : Some s ≡ None = sym (cond-true (f s) (Some s) (first_of f l) u) ∙ h in cc))
    (λ (u : f s ≡ false). ⊎_elim
    (λ e. ap f (same_true t s e) ∙ u)
    (λ e. first_none f l (sym (cond-false (f s) (Some s) (first_of f l) u) ∙ h) t e)
    (or_cases (same t s) (has l t) i))
    (cases_Bool (f s))

none_first : (f : Step → Bool) (l : List Step) → ((t : Step) → has l t ≡ true → f t ≡ false) → is_none (first_of f l) ≡ true
none_first f [] h = refl
none_first f (s ∷ l) h =
    ap is_none (cond-false (f s) (Some s) (first_of f l) (h s (or_left (same s s) (has l s) (same_refl s))))
    ∙ none_first f l (λ t i. h t (or_right (same t s) (has l t) i))

module _ (o : Outline) where
  -- the steps of the standard order are those of the plan
  planned : (t : Step) → has (standard o 1) t ≡ true → IsStep o t
  planned t h =
      let acc : Accepted o (standard o 1) = accepted o 1 in
      let f : (x : List Step) × (y : List Step) × (standard o 1 ≡ x ++ (t ∷ y)) = split_at (standard o 1) t h in
      acc.steps f.0 t f.1 f.2

  stands : (t : Step) → IsStep o t → has (standard o 1) t ≡ true
  stands t h = let acc : Accepted o (standard o 1) = accepted o 1 in acc.whole t h

  pub missing_is : (m : Step → Bool) (s t : Step) → missing o m s ≡ Some t → IsStep o t × Earlier o t s × (m t ≡ false)
  missing_is m s t h =
      let f : (has (standard o 1) t ≡ true) × ((is_earlier o t s && not (m t)) ≡ true) = first_is (λ t. is_earlier o t s && not (m t)) (standard o 1) t h in
      let u : (is_earlier o t s ≡ true) × (not (m t) ≡ true) = and_parts (is_earlier o t s) (not (m t)) f.1 in
      (planned t f.0, earlier_from o t s u.0, not-true (m t) u.1)

  takes_from : (m : Step → Bool) (s : Step) → may_take o m s ≡ true → Takes o m s
  takes_from m s h =
      let a : (is_step o s ≡ true) × ((not (m s) && is_none (missing o m s)) ≡ true) = and_parts (is_step o s) (not (m s) && is_none (missing o m s)) h in
      let b : (not (m s) ≡ true) × (is_none (missing o m s) ≡ true) = and_parts (not (m s)) (is_none (missing o m s)) a.1 in
      record {
        planned = step_from o s a.0;
        untaken = not-true (m s) b.0;
        after = λ t plan early. ⊎_elim
            (λ u. u)
            (λ (u : m t ≡ false). absurd (false≢true (sym (first_none (λ t. is_earlier o t s && not (m t)) (standard o 1) (none_is (missing o m s) b.1) t (stands t plan))
            ∙ and_from (is_earlier o t s) (not (m t)) (earlier_to o t s early) (not_from_false (m t) u))))
            (cases_Bool (m t));
      }

  takes_to : (m : Step → Bool) (s : Step) → Takes o m s → may_take o m s ≡ true
  takes_to m s h = and_from (is_step o s) (not (m s) && is_none (missing o m s)) (step_to o s h.planned)
      (and_from (not (m s)) (is_none (missing o m s)) (not_from_false (m s) h.untaken)
      (none_first (λ t. is_earlier o t s && not (m t)) (standard o 1)
      (λ t i. false_from_ne_true (is_earlier o t s && not (m t)) (λ u.
      let v : (is_earlier o t s ≡ true) × (not (m t) ≡ true) = and_parts (is_earlier o t s) (not (m t)) u in
      false≢true (sym (not-true (m t) v.1) ∙ h.after t (planned t i) (earlier_from o t s v.0))))))

  pub takes_test : (m : Step → Bool) (s : Step) → (may_take o m s ≡ true) ↔ Takes o m s
  takes_test m s = (takes_from m s, takes_to m s)

  pub left_is : (m : Step → Bool) (t : Step) → left_over o m ≡ Some t → IsStep o t × (m t ≡ false)
  left_is m t h =
      let f : (has (standard o 1) t ≡ true) × (not (m t) ≡ true) = first_is (λ t. not (m t)) (standard o 1) t h in
      (planned t f.0, not-true (m t) f.1)

  turns_from : (l : List Step) (m : Step → Bool) → takes_all o m l ≡ true → Turns o m l
  turns_from [] m h = λ s plan. ⊎_elim
      (λ u. u)
      (λ (u : m s ≡ false). absurd (false≢true (sym (first_none (λ t. not (m t)) (standard o 1) (none_is (left_over o m) h) s (stands s plan)) ∙ not_from_false (m s) u)))
      (cases_Bool (m s))
  turns_from (s ∷ l) m h =
      let a : (may_take o m s ≡ true) × (takes_all o (marked s m) l ≡ true) = and_parts (may_take o m s) (takes_all o (marked s m) l) h in
      (takes_from m s a.0, turns_from l (marked s m) a.1)

  turns_to : (l : List Step) (m : Step → Bool) → Turns o m l → takes_all o m l ≡ true
  turns_to [] m h = none_first (λ t. not (m t)) (standard o 1) (λ t i. not_from_true (m t) (h t (planned t i)))
  turns_to (s ∷ l) m h = and_from (may_take o m s) (takes_all o (marked s m) l) (takes_to m s h.0) (turns_to l (marked s m) h.1)

  pub accepted_test : (l : List Step) → (is_accepted o l ≡ true) ↔ Accepted o l
  accepted_test l = ((λ h. (by_turns o l).1 (turns_from l nothing_taken h)), (λ acc. turns_to l nothing_taken ((by_turns o l).0 acc)))
