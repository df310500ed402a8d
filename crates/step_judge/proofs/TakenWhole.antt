-- A list is taken whole exactly where it is accepted.
use Rattle.std.proofs.Common.{◌≡◌, Bool, true, false, cond, refl, sym, ap, ◌∙◌, ⊎_elim, List, [], ◌∷◌, ◌++◌, Option, Some, None, Err}
use Rattle.std.specs.Prelude.{◌&&◌, ◌||◌, ◌↔◌, not, is_none, Ok}
use Rattle.std.proofs.lemmas.Bool.{cases_Bool, false≢true, and_parts, and_from, cond-true, cond-false, not_from_false, or_left, or_right}
use Rattle.std.proofs.lemmas.List.{append-nil}
use Rattle.schedule_steps.specs.Outline.{Outline}
use Rattle.schedule_steps.specs.declared.step.Step.{Step}
use Rattle.schedule_steps.specs.Steps.{IsStep, Accepted, same, has}
use Rattle.schedule_steps.specs.Members.{same_refl}
use Rattle.schedule_steps.specs.Turns.{marked, nothing_taken}
use Rattle.schedule_steps.specs.Standard.{standard}
use Rattle.schedule_steps.specs.Judged.{is_step, is_earlier, first_of, missing, may_take, left_over, takes_all, is_accepted}
use Rattle.step_judge.specs.declared.refusal.ScheduleRefusal.{ScheduleRefusal}
use Rattle.step_judge.specs.declared.refusal.ScheduleRefusal.TheVariants.{NoSuchStep, Repeated}
use Rattle.step_judge.specs.Verdicts.{too_early, judged}
use Rattle.step_judge.specs.TakenAll.{TakenAll}

first_agree : (f g : Step → Bool) (l : List Step) → ((t : Step) → has l t ≡ true → f t ≡ g t) → first_of f l ≡ first_of g l
first_agree f g [] e = refl
first_agree f g (s ∷ l) e =
    ap (λ b. cond b (Some s) (first_of f l)) (e s (or_left (same s s) (has l s) (same_refl s)))
    ∙ ap (λ z. cond (g s) (Some s) z) (first_agree f g l (λ t h. e t (or_right (same t s) (has l t) h)))

none_test : (x : Option Step) → is_none x ≡ true → x ≡ None
none_test None h = refl
none_test (Some t) h = absurd (false≢true h)

-- of what is taken only the plan's steps matter
module _ (o : Outline) (planned : (t : Step) → has (standard o 1) t ≡ true → IsStep o t) (tests : (s : Step) → (is_step o s ≡ true) ↔ IsStep o s) where
  abbrev Agree : (Step → Bool) → (Step → Bool) → Type 0
  Agree m n = (t : Step) → IsStep o t → m t ≡ n t

  left_agree : (m n : Step → Bool) → Agree m n → left_over o m ≡ left_over o n
  left_agree m n e = first_agree (λ t. not (m t)) (λ t. not (n t)) (standard o 1) (λ t h. ap not (e t (planned t h)))

  missing_agree : (m n : Step → Bool) (s : Step) → Agree m n → missing o m s ≡ missing o n s
  missing_agree m n s e = first_agree (λ t. is_earlier o t s && not (m t)) (λ t. is_earlier o t s && not (n t)) (standard o 1)
      (λ t h. ap (λ b. is_earlier o t s && not b) (e t (planned t h)))

  may_agree : (m n : Step → Bool) (s : Step) → Agree m n → may_take o m s ≡ may_take o n s
  may_agree m n s e = ⊎_elim
      (λ (h : is_step o s ≡ true). ap (λ b. is_step o s && (not b && is_none (missing o m s))) (e s ((tests s).0 h))
      ∙ ap (λ x. is_step o s && (not (n s) && is_none x)) (missing_agree m n s e))
      (λ (h : is_step o s ≡ false). ap (λ b. b && (not (m s) && is_none (missing o m s))) h ∙ sym (ap (λ b. b && (not (n s) && is_none (missing o n s))) h))
      (cases_Bool (is_step o s))

  marked_agree : (m n : Step → Bool) (s : Step) → Agree m n → Agree (marked s m) (marked s n)
  marked_agree m n s e t h = ap (λ b. same t s || b) (e t h)

  all_agree : (l : List Step) (m n : Step → Bool) → Agree m n → takes_all o m l ≡ takes_all o n l
  all_agree [] m n e = ap is_none (left_agree m n e)
  all_agree (s ∷ l) m n e =
      ap (λ b. b && takes_all o (marked s m) l) (may_agree m n s e)
      ∙ ap (λ b. may_take o n s && b) (all_agree l (marked s m) (marked s n) (marked_agree m n s e))

  -- what is judged well may be taken, and nothing else
  well : (m : Step → Bool) (s : Step) → judged o m s ≡ Ok tt → may_take o m s ≡ true
  well m s h = ⊎_elim
      (λ (u : is_step o s ≡ true). ⊎_elim
      (λ (t : m s ≡ true). (let e : Ok tt ≡ Err Repeated = sym h
      ∙ (cond-true (is_step o s) (cond (m s) (Err Repeated) (too_early (missing o m s))) (Err NoSuchStep) u
      ∙ cond-true (m s) (Err Repeated) (too_early (missing o m s)) t) in cc))
      (λ (t : m s ≡ false). and_from (is_step o s) (not (m s) && is_none (missing o m s)) u (and_from (not (m s)) (is_none (missing o m s)) (not_from_false (m s) t)
      (none_of (missing o m s) (sym (cond-true (is_step o s) (cond (m s) (Err Repeated) (too_early (missing o m s))) (Err NoSuchStep) u
      ∙ cond-false (m s) (Err Repeated) (too_early (missing o m s)) t) ∙ h))))
      (cases_Bool (m s)))
      (λ (u : is_step o s ≡ false). (let e : Ok tt ≡ Err NoSuchStep = sym h ∙ cond-false (is_step o s) (cond (m s) (Err Repeated) (too_early (missing o m s))) (Err NoSuchStep) u in cc))
      (cases_Bool (is_step o s))
    where
      none_of : (x : Option Step) → too_early x ≡ Ok tt → is_none x ≡ true
      none_of None e = refl
      none_of (Some t) e = cc

  refusal : (m : Step → Bool) (s : Step) (e : ScheduleRefusal) → judged o m s ≡ Err e → may_take o m s ≡ true → ⊥
  refusal m s e h may =
      let a : (is_step o s ≡ true) × ((not (m s) && is_none (missing o m s)) ≡ true) = and_parts (is_step o s) (not (m s) && is_none (missing o m s)) may in
      let b : (not (m s) ≡ true) × (is_none (missing o m s) ≡ true) = and_parts (not (m s)) (is_none (missing o m s)) a.1 in
      let j : judged o m s ≡ cond (m s) (Err Repeated) (too_early (missing o m s)) = cond-true (is_step o s) (cond (m s) (Err Repeated) (too_early (missing o m s))) (Err NoSuchStep) a.0 in
      ⊎_elim
      (λ (t : m s ≡ true). false≢true (sym (ap not t) ∙ b.0))
      (λ (t : m s ≡ false). (let k : Err e ≡ Ok tt = sym h ∙ (j ∙ (cond-false (m s) (Err Repeated) (too_early (missing o m s)) t ∙ ap too_early (none_test (missing o m s) b.1))) in cc))
      (cases_Bool (m s))

  -- what is taken behind the list decides
  after : (l rest : List Step) (m n : Step → Bool) → TakenAll o m l n → takes_all o m (l ++ rest) ≡ takes_all o n rest
  after [] rest m n h = all_agree rest m n (λ t st. sym (h t))
  after (s ∷ l) rest m n h =
      ap (λ b. b && takes_all o (marked s m) (l ++ rest)) (well m s h.0)
      ∙ (all_agree (l ++ rest) (marked s m) h.1.0 (λ t st. sym (h.1.1 t)) ∙ after l rest h.1.0 n h.1.2)

  module _ (accepts : (l : List Step) → (is_accepted o l ≡ true) ↔ Accepted o l) (m n : Step → Bool) (l : List Step) (fresh : (t : Step) → IsStep o t → m t ≡ false) (h : TakenAll o m l n) where
    start : (rest : List Step) → is_accepted o (l ++ rest) ≡ takes_all o n rest
    start rest = all_agree (l ++ rest) nothing_taken m (λ t st. sym (fresh t st)) ∙ after l rest m n h

    pub whole : Accepted o l ↔ (left_over o n ≡ None)
    whole =
        let e : is_accepted o l ≡ is_none (left_over o n) = ap (is_accepted o) (sym (append-nil l)) ∙ start [] in
        ((λ a. none_test (left_over o n) (sym e ∙ (accepts l).1 a)), (λ x. (accepts l).0 (e ∙ ap is_none x)))

    pub refused : (s : Step) (e : ScheduleRefusal) → judged o n s ≡ Err e → (rest : List Step) → Accepted o (l ++ (s ∷ rest)) → ⊥
    refused s e j rest a =
        let b : (may_take o n s && takes_all o (marked s n) rest) ≡ true = sym (start (s ∷ rest)) ∙ (accepts (l ++ (s ∷ rest))).1 a in
        refusal n s e j (and_parts (may_take o n s) (takes_all o (marked s n) rest) b).0
