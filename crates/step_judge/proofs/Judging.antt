-- What a checker answers, by what the marks say.
use Rattle.std.proofs.Common.{◌≡◌, Bool, true, false, cond, refl, sym, ap, ◌∙◌, List, [], ◌∷◌, ◌++◌, Option, Some, None, Err}
use Rattle.std.specs.Prelude.{◌&&◌, ◌↔◌, not, is_none}
use Rattle.std.proofs.lemmas.Bool.{or_left, or_right}
use Rattle.schedule_steps.specs.Outline.{Outline}
use Rattle.schedule_steps.specs.declared.step.Step.{Step}
use Rattle.schedule_steps.specs.Steps.{IsStep, Earlier, same, has, Accepted}
use Rattle.schedule_steps.specs.Members.{same_refl, split_at}
use Rattle.schedule_steps.specs.Turns.{Takes}
use Rattle.schedule_steps.specs.Standard.{standard}
use Rattle.schedule_steps.specs.Judged.{is_step, is_earlier, first_of, missing, may_take}
use Rattle.step_judge.specs.Marked.{Marked, outline_of, taken, IsReady}
use Rattle.step_judge.specs.declared.refusal.ScheduleRefusal.TheVariants.{NoSuchStep, Repeated}
use Rattle.step_judge.specs.Verdicts.{too_early, judged}
use Rattle.step_judge.specs.Wanted.{wanted}

first_same : (f g : Step → Bool) (l : List Step) → ((t : Step) → has l t ≡ true → f t ≡ g t) → first_of f l ≡ first_of g l
first_same f g [] e = refl
first_same f g (s ∷ l) e =
    ap (λ b. cond b (Some s) (first_of f l)) (e s (or_left (same s s) (has l s) (same_refl s)))
    ∙ ap (λ z. cond (g s) (Some s) z) (first_same f g l (λ t h. e t (or_right (same t s) (has l t) h)))

pub planned : (o : Outline) (m : Step → Bool) (s : Step) → is_step o s ≡ true → judged o m s ≡ cond (m s) (Err Repeated) (too_early (missing o m s))
planned o m s h = ap (λ b. cond b (cond (m s) (Err Repeated) (too_early (missing o m s))) (Err NoSuchStep)) h

-- a step that wasn't
pub untaken : (o : Outline) (m : Step → Bool) (s : Step) (x : Option Step) → is_step o s ≡ true → m s ≡ false → missing o m s ≡ x → too_early x ≡ judged o m s
untaken o m s x h t e = sym (planned o m s h ∙ (ap (λ b. cond b (Err Repeated) (too_early (missing o m s))) t ∙ ap too_early e))

module _ (v : Marked) (o : Outline)
    (steps : (s : Step) → is_step (outline_of v) s ≡ is_step o s)
    (earlier : (t s : Step) → IsStep (outline_of v) t → IsStep (outline_of v) s → is_earlier (outline_of v) t s ≡ is_earlier o t s)
    (step_tests : (n : Outline) (s : Step) → (is_step n s ≡ true) ↔ IsStep n s)
    (earlier_tests : (n : Outline) (t s : Step) → (is_earlier n t s ≡ true) ↔ Earlier n t s)
    (takes_tests : (n : Outline) (m : Step → Bool) (s : Step) → (may_take n m s ≡ true) ↔ Takes n m s)
  where
    here : (t : Step) → IsStep o t → IsStep (outline_of v) t
    here t h = (step_tests (outline_of v) t).0 (steps t ∙ (step_tests o t).1 h)

    there : (t : Step) → IsStep (outline_of v) t → IsStep o t
    there t h = (step_tests o t).0 (sym (steps t) ∙ (step_tests (outline_of v) t).1 h)

    -- something is missing of a step that isn't
    pub none_ready : (s : Step) → IsStep (outline_of v) s → taken v s ≡ false → missing o (taken v) s ≡ None → IsReady v s
    none_ready s st open_step none t ts e =
        let may : may_take o (taken v) s ≡ true =
        ap (λ b. b && (not (taken v s) && is_none (missing o (taken v) s))) ((step_tests o s).1 (there s st))
        ∙ (ap (λ b. true && (not b && is_none (missing o (taken v) s))) open_step ∙ ap (λ x. true && (not false && is_none x)) none) in
        ((takes_tests o (taken v) s).0 may).after t (there t ts) ((earlier_tests o t s).0 (sym (earlier t s ts st) ∙ (earlier_tests (outline_of v) t s).1 e))

    -- what is missing by the marks is what is missing by the plan
    pub missing_same : (s : Step) → IsStep (outline_of v) s → Accepted o (standard o 1) → first_of (wanted v (Some s)) (standard o 1) ≡ missing o (taken v) s
    missing_same s st whole = first_same (wanted v (Some s)) (λ t. is_earlier o t s && not (taken v t)) (standard o 1)
        (λ t h. (let at : (x : List Step) × (y : List Step) × (standard o 1 ≡ x ++ (t ∷ y)) = split_at (standard o 1) t h in
        ap (λ b. b && not (taken v t)) (earlier t s (here t (whole.steps at.0 t at.1 at.2)) st)))
