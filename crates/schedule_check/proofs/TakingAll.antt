-- Steps of a list that are taken one after another from where no step is taken.
use Rattle.std.proofs.Common.{◌≡◌, ℕ, ◌+◌, ◌≤◌, Bool, true, false, cond, refl, sym, ap, subst, ◌∙◌, arith, ⊎_elim, List, [], ◌∷◌, ◌++◌, length, Option, Some, None, Err}
use Rattle.std.specs.Prelude.{◌&&◌, ◌||◌, ◌↔◌, not, Ok}
use Rattle.std.proofs.lemmas.Bool.{cases_Bool, cond-false, or_left, or_right}
use Rattle.std.proofs.lemmas.List.{append_assoc, append-nil, length_push}
use Rattle.local_mesh.specs.declared.types.RankMesh.{RankMesh}
use Rattle.schedule_steps.specs.Outline.{Outline}
use Rattle.schedule_steps.specs.declared.step.Step.{Step}
use Rattle.schedule_steps.specs.declared.peak.Peak.{Peak}
use Rattle.schedule_steps.specs.Steps.{IsStep, Accepted, same, has}
use Rattle.schedule_steps.specs.Members.{same_refl, split_at}
use Rattle.schedule_steps.specs.Turns.{marked, nothing_taken}
use Rattle.schedule_steps.specs.Standard.{standard}
use Rattle.schedule_steps.specs.Judged.{is_step, is_earlier, first_of, missing, left_over}
use Rattle.schedule_steps.specs.Peaks.{IsPeak, step_count}
use Rattle.step_judge.specs.declared.marks.load.Load.{Load}
use Rattle.step_judge.specs.Load.{loaded, loaded_all, no_load}
use Rattle.step_judge.specs.declared.refusal.ScheduleRefusal.{ScheduleRefusal}
use Rattle.step_judge.specs.declared.refusal.ScheduleRefusal.TheVariants.{NoSuchStep, Repeated, Incomplete}
use Rattle.step_judge.specs.Verdicts.{too_early, judged, incomplete, finished}
use Rattle.step_judge.specs.Checking.{untaken}
use Rattle.step_judge.specs.TakenAll.{TakenAll}
use Rattle.step_judge.proofs.Public.{one_fewer, judged_well}
use Rattle.bound_program.specs.Values.{BoundValue}
use Rattle.loop_plan.specs.Values.{PlanValue}
use Rattle.loop_plan.specs.StepOutline.{step_outline}
use Rattle.schedule_check.specs.Mail.{plan_cells}
use Rattle.schedule_check.specs.PlanChecking.{PlanChecking, outline_in, taken_in, IsNew, TakesPlanStep}
use Rattle.schedule_check.specs.Whole.{IsWhole, IsUnaccepted}
use Rattle.schedule_check.proofs.Rooms.{untaken_few}

first_agree : (f g : Step → Bool) (l : List Step) → ((t : Step) → has l t ≡ true → f t ≡ g t) → first_of f l ≡ first_of g l
first_agree f g [] e = refl
first_agree f g (s ∷ l) e =
    ap (λ b. cond b (Some s) (first_of f l)) (e s (or_left (same s s) (has l s) (same_refl s)))
    ∙ ap (λ z. cond (g s) (Some s) z) (first_agree f g l (λ t h. e t (or_right (same t s) (has l t) h)))

-- one step more is loaded
loaded_push : (f : ℕ → ℕ → ℕ → ℕ) (l : List Step) (s : Step) (c : Load) → loaded_all f (l ++ (s ∷ [])) c ≡ loaded f s (loaded_all f l c)
loaded_push f [] s c = refl
loaded_push f (t ∷ l) s c = loaded_push f l s (loaded f t c)

finished_ok : (p k : Peak) (x : Option Step) → finished p x ≡ Ok k → (x ≡ None) × (p ≡ k)
finished_ok p k None h = (refl, cc)
finished_ok p k (Some t) h = cc

finished_err : (p : Peak) (e : ScheduleRefusal) (x : Option Step) → finished p x ≡ Err e → incomplete x ≡ Err e
finished_err p e None h = cc
finished_err p e (Some t) h = (let i : Incomplete t ≡ e = cc in ap Err i)

no_left : (x : Option Step) (e : ScheduleRefusal) → incomplete x ≡ Err e → x ≡ None → ⊥
no_left None e h i = cc
no_left (Some t) e h i = cc

module _ (o : Outline) (tests : (n : Outline) (s : Step) → (is_step n s ≡ true) ↔ IsStep n s) (standards : (n : Outline) (g : ℕ) → Accepted n (standard n g)) where
  planned : (t : Step) → has (standard o 1) t ≡ true → IsStep o t
  planned t h = (let at : (x : List Step) × (y : List Step) × (standard o 1 ≡ x ++ (t ∷ y)) = split_at (standard o 1) t h in (standards o 1).steps at.0 t at.1 at.2)

  left_agree : (m n : Step → Bool) → ((t : Step) → IsStep o t → m t ≡ n t) → left_over o m ≡ left_over o n
  left_agree m n e = first_agree (λ t. not (m t)) (λ t. not (n t)) (standard o 1) (λ t h. ap not (e t (planned t h)))

  missing_agree : (m n : Step → Bool) (s : Step) → ((t : Step) → IsStep o t → m t ≡ n t) → missing o m s ≡ missing o n s
  missing_agree m n s e = first_agree (λ t. is_earlier o t s && not (m t)) (λ t. is_earlier o t s && not (n t)) (standard o 1)
      (λ t h. ap (λ b. is_earlier o t s && not b) (e t (planned t h)))

  judged_agree : (m n : Step → Bool) (s : Step) → ((t : Step) → IsStep o t → m t ≡ n t) → judged o m s ≡ judged o n s
  judged_agree m n s e = ⊎_elim
      (λ (h : is_step o s ≡ true). ap (λ b. cond (is_step o s) (cond b (Err Repeated) (too_early (missing o m s))) (Err NoSuchStep)) (e s ((tests o s).0 h))
      ∙ ap (λ x. cond (is_step o s) (cond (n s) (Err Repeated) (too_early x)) (Err NoSuchStep)) (missing_agree m n s e))
      (λ (h : is_step o s ≡ false). cond-false (is_step o s) (cond (m s) (Err Repeated) (too_early (missing o m s))) (Err NoSuchStep) h
      ∙ sym (cond-false (is_step o s) (cond (n s) (Err Repeated) (too_early (missing o n s))) (Err NoSuchStep) h))
      (cases_Bool (is_step o s))

  -- one step more is taken
  taken_push : (l : List Step) (m n : Step → Bool) (s : Step) → TakenAll o m l n → judged o n s ≡ Ok tt → TakenAll o m (l ++ (s ∷ [])) (marked s n)
  taken_push [] m n s h j = (judged_agree m n s (λ t p. sym (h t)) ∙ j, (marked s m, (λ t. refl), (λ t. ap (λ b. same t s || b) (h t))))
  taken_push (t ∷ l) m n s h j = (h.0, (h.1.0, h.1.1, taken_push l h.1.0 n s h.1.2 j))

-- The checker d is of this plan; of the list the steps in `come` are still to come, and it took those before them, as many as
-- `step` says.
pub record Reached (b : BoundValue) (ms : List RankMesh) (p : PlanValue) (l come : List Step) (step : ℕ) (d : PlanChecking) : Type 0 where
  pub bound : d.bound ≡ b
  pub meshes : d.meshes ≡ ms
  pub plan : d.plan ≡ p
  pub front : List Step
  pub split : l ≡ front ++ come
  pub number : step ≡ length front
  pub after : Step → Bool
  pub took : TakenAll (step_outline b ms p) nothing_taken front after
  pub agree : (t : Step) → IsStep (step_outline b ms p) t → taken_in d t ≡ after t
  pub loads : d.steps.load ≡ loaded_all (plan_cells b ms p) front no_load
  pub few : step + untaken (taken_in d) (standard (step_outline b ms p) 1) ≤ step_count (step_outline b ms p)

module _ (b : BoundValue) (meshes : List RankMesh) (p : PlanValue) (tests : (n : Outline) (s : Step) → (is_step n s ≡ true) ↔ IsStep n s)
    (standards : (n : Outline) (g : ℕ) → Accepted n (standard n g)) (l : List Step) where
  abbrev o : Outline
  o = step_outline b meshes p

  abbrev cells : ℕ → ℕ → ℕ → ℕ
  cells = plan_cells b meshes p

  outlines : (d : PlanChecking) → d.bound ≡ b → d.meshes ≡ meshes → d.plan ≡ p → outline_in d ≡ o
  outlines d eb em ep = ap (λ z. step_outline z d.meshes d.plan) eb ∙ (ap (λ z. step_outline b z d.plan) em ∙ ap (λ z. step_outline b meshes z) ep)

  same_cells : (d : PlanChecking) → d.bound ≡ b → d.meshes ≡ meshes → d.plan ≡ p → plan_cells d.bound d.meshes d.plan ≡ cells
  same_cells d eb em ep = ap (λ z. plan_cells z d.meshes d.plan) eb ∙ (ap (λ z. plan_cells b z d.plan) em ∙ ap (λ z. plan_cells b meshes z) ep)

  pub start : (d : PlanChecking) → IsNew b meshes p d → Reached b meshes p l l 0 d
  start d new = record {
    bound = new.bound;
    meshes = new.meshes;
    plan = new.plan;
    front = [];
    split = refl;
    number = refl;
    after = nothing_taken;
    took = λ t. refl;
    agree = λ t h. new.marks t (subst (λ z. IsStep z t) (sym (outlines d new.bound new.meshes new.plan)) h);
    loads = new.load;
    few = (let u : untaken (taken_in d) (standard o 1) ≤ step_count o = untaken_few (taken_in d) (standard o 1) in omega arith);
  }

  module _ (d : PlanChecking) (come : List Step) (step : ℕ) (r : Reached b meshes p l come step d) where
    outline : outline_in d ≡ o
    outline = outlines d r.bound r.meshes r.plan

    -- the step s comes next
    module _ (s : Step) (rest : List Step) (next : come ≡ s ∷ rest) where
      split_next : l ≡ r.front ++ (s ∷ rest)
      split_next = r.split ∙ ap (λ z. r.front ++ z) next

      judged_now : judged (outline_in d) (taken_in d) s ≡ judged o (taken_in d) s
      judged_now = ap (λ z. judged z (taken_in d) s) outline

      judged_after : judged (outline_in d) (taken_in d) s ≡ judged o r.after s
      judged_after = judged_now ∙ judged_agree o tests standards (taken_in d) r.after s r.agree

      pub take_next : (e : PlanChecking) → judged (outline_in d) (taken_in d) s ≡ Ok tt → TakesPlanStep d e s → Reached b meshes p l rest (step + 1) e
      take_next e j t = record {
        bound = t.bound ∙ r.bound;
        meshes = t.meshes ∙ r.meshes;
        plan = t.plan ∙ r.plan;
        front = r.front ++ (s ∷ []);
        split = split_next ∙ sym (append_assoc r.front (s ∷ []) rest);
        number = (let n : step ≡ length r.front = r.number in let m : length (r.front ++ (s ∷ [])) ≡ length r.front + 1 = length_push r.front s in omega arith);
        after = marked s r.after;
        took = taken_push o tests standards r.front nothing_taken r.after s r.took (sym judged_after ∙ j);
        agree = λ u h. t.marks u ∙ ap (λ z. same u s || z) (r.agree u h);
        loads = t.load
            ∙ (ap (λ z. loaded z s d.steps.load) (same_cells d r.bound r.meshes r.plan)
            ∙ (ap (λ z. loaded cells s z) r.loads ∙ sym (loaded_push cells r.front s no_load)));
        few = (let w : (is_step o s ≡ true) × (taken_in d s ≡ false) = judged_well o (taken_in d) s (sym (sym judged_now ∙ j)) in
            let u : untaken (taken_in e) (standard o 1) + 1 ≤ untaken (taken_in d) (standard o 1) =
            one_fewer (taken_in d) (taken_in e) (standard o 1) s t.marks (t.marks s ∙ or_left (same s s) (taken_in d s) (same_refl s)) w.1
            ((standards o 1).whole s ((tests o s).0 w.0)) in
            let f : step + untaken (taken_in d) (standard o 1) ≤ step_count o = r.few in omega arith);
      }

      pub refuse_next : (e : ScheduleRefusal) → judged (outline_in d) (taken_in d) s ≡ Err e
          → ((m n : Step → Bool) (x : List Step) → ((u : Step) → IsStep o u → m u ≡ false) → TakenAll o m x n
          → (u : Step) (f : ScheduleRefusal) → judged o n u ≡ Err f → (more : List Step) → Accepted o (x ++ (u ∷ more)) → ⊥)
          → IsUnaccepted b meshes p l rest (record { step = step; refusal = e })
      refuse_next e j law = record {
        front = r.front;
        rest = s ∷ rest;
        split = split_next;
        number = r.number;
        after = r.after;
        took = r.took;
        refused = sym judged_after ∙ j;
        left = refl;
        unaccepted = λ a. law nothing_taken r.after r.front (λ u h. refl) r.took s e (sym judged_after ∙ j) rest (subst (Accepted o) split_next a);
      }

    -- no step comes any more
    module _ (over : come ≡ [])
        (law : (m n : Step → Bool) (x : List Step) → ((u : Step) → IsStep o u → m u ≡ false) → TakenAll o m x n → Accepted o x ↔ (left_over o n ≡ None))
      where
        all : l ≡ r.front
        all = r.split ∙ (ap (λ z. r.front ++ z) over ∙ append-nil r.front)

        accepts : Accepted o r.front ↔ (left_over o r.after ≡ None)
        accepts = law nothing_taken r.after r.front (λ u h. refl) r.took

        left_after : left_over (outline_in d) (taken_in d) ≡ left_over o r.after
        left_after = ap (λ z. left_over z (taken_in d)) outline ∙ left_agree o tests standards (taken_in d) r.after r.agree

        pub whole_at_end : (k : Peak) → finished d.steps.load.peak (left_over (outline_in d) (taken_in d)) ≡ Ok k
            → ((x : List Step) → IsPeak cells x (loaded_all cells x no_load).peak)
            → IsWhole b meshes p l k
        whole_at_end k h peaks =
            let f : (left_over (outline_in d) (taken_in d) ≡ None) × (d.steps.load.peak ≡ k) = finished_ok d.steps.load.peak k (left_over (outline_in d) (taken_in d)) h in
            record {
              accepted = subst (Accepted o) (sym all) (accepts.1 (sym left_after ∙ f.0));
              peak = subst (λ x. IsPeak cells x k) (sym all) (subst (IsPeak cells r.front) (ap (λ (z : Load). z.peak) (sym r.loads) ∙ f.1) (peaks r.front));
            }

        pub left_at_end : (e : ScheduleRefusal) → finished d.steps.load.peak (left_over (outline_in d) (taken_in d)) ≡ Err e
            → IsUnaccepted b meshes p l [] (record { step = step; refusal = e })
        left_at_end e h =
            let i : incomplete (left_over o r.after) ≡ Err e = ap incomplete (sym left_after) ∙ finished_err d.steps.load.peak e (left_over (outline_in d) (taken_in d)) h in
            record {
              front = r.front;
              rest = [];
              split = r.split ∙ ap (λ z. r.front ++ z) over;
              number = r.number;
              after = r.after;
              took = r.took;
              refused = i;
              left = refl;
              unaccepted = λ a. no_left (left_over o r.after) e i (accepts.0 (subst (Accepted o) all a));
            }
