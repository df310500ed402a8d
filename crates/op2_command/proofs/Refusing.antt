-- From what a checker answers of a list of steps to the refusal of its text.
use Rattle.std.proofs.Common.{◌≡◌, ℕ, Bool, true, false, cond, Option, None, Some, List, [], ◌∷◌, ◌++◌, length, Ok, Err, refl, sym, ap, subst, ◌∙◌, append_assoc}
use Rattle.std.proofs.lemmas.List.{append-nil}
use Rattle.std.specs.Prelude.{slice_get}
use Rattle.local_mesh.specs.declared.types.RankMesh.{RankMesh}
use Rattle.schedule_steps.specs.Outline.{Outline}
use Rattle.schedule_steps.specs.declared.step.Step.{Step}
use Rattle.schedule_steps.specs.Judged.{is_step, missing, left_over}
use Rattle.schedule_steps.specs.Steps.{has}
use Rattle.schedule_steps.specs.Members.{has_push}
use Rattle.schedule_steps.specs.Turns.{nothing_taken}
use Rattle.step_judge.specs.declared.refusal.ScheduleRefusal.{ScheduleRefusal}
use Rattle.step_judge.specs.declared.refusal.ScheduleRefusal.TheVariants as taking
use Rattle.step_judge.specs.Verdicts.{judged, too_early, incomplete}
use Rattle.step_judge.specs.TakenAll.{TakenAll}
use Rattle.bound_program.specs.Values.{BoundValue}
use Rattle.loop_plan.specs.Values.{PlanValue}
use Rattle.loop_plan.specs.StepOutline.{step_outline}
use Rattle.schedule_check.specs.declared.whole.Unaccepted.{Unaccepted}
use Rattle.schedule_check.specs.Whole.{IsRefusedNext, IsUnaccepted}
use Rattle.schedule_steps.specs.declared.text.lines.Line.{Line}
use Rattle.command_words.specs.Refusal.{Refusal}
use Rattle.answers.specs.Said.{SaysNext}
use Rattle.answers.specs.Judgements.{steps_in, judged_next, IsStepRefused}
use Rattle.command_words.specs.declared.answer_lines.refusals.Halt.{Halt}
use Rattle.command_words.specs.Halts.{StopsWhere}
use Rattle.op2_command.specs.Chains.{CanRefuse, SaysFirst}
use Rattle.command_words.proofs.Public.{stops_weaker}

module _ (o : Outline) where
  -- where the steps of l are taken in turn behind those of done, each is judged well where those before it are taken
  pub record WellTaken (done l : List Step) (after : Step → Bool) : Type 0 where
    pub each : (xs ys : List Step) (s : Step) → l ≡ xs ++ (s ∷ ys) → judged o (has (done ++ xs)) s ≡ Ok tt
    pub last : after ≡ has (done ++ l)

  head_is : (s x : Step) (l ys : List Step) → s ∷ l ≡ x ∷ ys → s ≡ x
  head_is s x l ys e = cc

  tail_is : (s x : Step) (l ys : List Step) → s ∷ l ≡ x ∷ ys → l ≡ ys
  tail_is s x l ys e = cc

  none_taken : (done : List Step) (after : Step → Bool) → TakenAll o (has done) [] after → WellTaken done [] after
  none_taken done after h = record {
    each = λ xs ys s e. absurd (none xs ys s e);
    last = (λ i t. h t i) ∙ ap has (sym (append-nil done));
  }
    where
      none : (xs ys : List Step) (s : Step) → [] ≡ xs ++ (s ∷ ys) → ⊥
      none [] ys s e = (let w : [] ≡ s ∷ ys = e in cc)
      none (x ∷ xs) ys s e = (let w : [] ≡ x ∷ (xs ++ (s ∷ ys)) = e in cc)

  one_taken : (done l : List Step) (s : Step) (after : Step → Bool) → judged o (has done) s ≡ Ok tt → WellTaken (done ++ (s ∷ [])) l after
      → WellTaken done (s ∷ l) after
  one_taken done l s after ok w = record { each = each; last = w.last ∙ ap has (append_assoc done (s ∷ []) l) }
    where
      each : (xs ys : List Step) (x : Step) → s ∷ l ≡ xs ++ (x ∷ ys) → judged o (has (done ++ xs)) x ≡ Ok tt
      each [] ys x e =
          subst (λ y. judged o (has (done ++ [])) y ≡ Ok tt) (head_is s x l ys e)
          (ap (λ d. judged o (has d) s) (append-nil done) ∙ ok)
      each (z ∷ xs) ys x e =
          let same_head : s ≡ z = head_is s z l (xs ++ (x ∷ ys)) e in
          ap (λ d. judged o (has d) x) (sym (append_assoc done (z ∷ []) xs) ∙ ap (λ y. (done ++ (y ∷ [])) ++ xs) (sym same_head))
          ∙ w.each xs ys x (tail_is s z l (xs ++ (x ∷ ys)) e)

  pub well_taken : (done l : List Step) (after : Step → Bool) → TakenAll o (has done) l after → WellTaken done l after
  well_taken done [] after h = none_taken done after h
  well_taken done (s ∷ l) after h =
      let same : h.1.0 ≡ has (done ++ (s ∷ [])) = (λ i t. h.1.1 t i) ∙ sym (λ i t. has_push done s t i) in
      one_taken done l s after h.0 (well_taken (done ++ (s ∷ [])) l after (subst (λ m. TakenAll o m l after) same h.1.2))

  next_refused : (m : Step → Bool) (rest : List Step) (e : ScheduleRefusal) → IsRefusedNext o m rest e → judged_next o m rest ≡ Err e
  next_refused m [] e h = h
  next_refused m (s ∷ l) e h = h

-- lines of which the steps are these
pub record Split (ls : List Line) (front rest : List Step) : Type 0 where
  pub lines : List Line
  pub others : List Line
  pub whole : ls ≡ lines ++ others
  pub front_is : steps_in lines ≡ front
  pub rest_is : steps_in others ≡ rest
  pub next : slice_get ls (length front) ≡ slice_get others 0

pub split : (ls : List Line) (front rest : List Step) → steps_in ls ≡ front ++ rest → Split ls front rest
split ls [] rest e = record { lines = []; others = ls; whole = refl; front_is = refl; rest_is = e; next = refl }
split [] (s ∷ front) rest e = absurd (let w : [] ≡ s ∷ (front ++ rest) = e in cc)
split (l ∷ ls) (s ∷ front) rest e =
    let head : l.step ≡ s = cc in
    let tail : steps_in ls ≡ front ++ rest = cc in
    let k = split ls front rest tail in
    record {
      lines = l ∷ k.lines;
      others = k.others;
      whole = ap (λ z. l ∷ z) k.whole;
      front_is = ap (λ z. z ∷ steps_in k.lines) head ∙ ap (λ z. s ∷ z) k.front_is;
      rest_is = k.rest_is;
      next = k.next;
    }

says_next : (rest : List Line) (end : ℕ) (e : ScheduleRefusal) (r : Refusal) → SaysFirst (slice_get rest 0) end e r → SaysNext rest end e r
says_next [] end e r h = h
says_next (l ∷ ls) end e r h = h

-- ---- what can be refused where

left_at_end : (x : Option Step) (e : ScheduleRefusal) → incomplete x ≡ Err e → CanRefuse None e
left_at_end None e h = absurd (let bad : ⊥ = cc in bad)
left_at_end (Some t) e h = (let same : taking.Incomplete t ≡ e = cc in subst (CanRefuse None) same tt)

refused_step : (l : Line) (here taken : Bool) (x : Option Step) (e : ScheduleRefusal)
    → cond here (cond taken (Err taking.Repeated) (too_early x)) (Err taking.NoSuchStep) ≡ Err e
    → CanRefuse (Some l) e
refused_step l false taken x e h = (let same : taking.NoSuchStep ≡ e = cc in subst (CanRefuse (Some l)) same tt)
refused_step l true true x e h = (let same : taking.Repeated ≡ e = cc in subst (CanRefuse (Some l)) same tt)
refused_step l true false None e h = absurd (let bad : ⊥ = cc in bad)
refused_step l true false (Some t) e h = (let same : taking.TooEarly t ≡ e = cc in subst (CanRefuse (Some l)) same tt)

refused_next : (o : Outline) (m : Step → Bool) (ls : List Line) (rest : List Step) (e : ScheduleRefusal) → steps_in ls ≡ rest
    → IsRefusedNext o m rest e
    → CanRefuse (slice_get ls 0) e
refused_next o m [] [] e is h = left_at_end (left_over o m) e h
refused_next o m [] (s ∷ rest) e is h = absurd (let bad : ⊥ = cc in bad)
refused_next o m (l ∷ ls) [] e is h = absurd (let bad : ⊥ = cc in bad)
refused_next o m (l ∷ ls) (s ∷ rest) e is h = refused_step l (is_step o s) (m s) (missing o m s) e h

pub can_refuse : (b : BoundValue) (meshes : List RankMesh) (p : PlanValue) (ls : List Line) (steps come : List Step) (u : Unaccepted)
    → steps ≡ steps_in ls
    → IsUnaccepted b meshes p steps come u
    → CanRefuse (slice_get ls u.step) u.refusal
can_refuse b meshes p ls steps come u is x =
    subst (λ z. CanRefuse z u.refusal) (sym (ap (slice_get ls) x.number ∙ parts.next))
    (refused_next (step_outline b meshes p) x.after parts.others x.rest u.refusal parts.rest_is x.refused)
  where
    parts : Split ls x.front x.rest
    parts = split ls x.front x.rest (sym is ∙ x.split)

pub step_refused : (b : BoundValue) (meshes : List RankMesh) (p : PlanValue) (ls : List Line) (steps come : List Step) (end : ℕ) (u : Unaccepted) (h : Halt)
    → steps ≡ steps_in ls
    → IsUnaccepted b meshes p steps come u
    → StopsWhere (SaysFirst (slice_get ls u.step) end u.refusal) h
    → StopsWhere (IsStepRefused (step_outline b meshes p) ls end) h
step_refused b meshes p ls steps come end u h is x says =
    stops_weaker (SaysFirst (slice_get ls u.step) end u.refusal) (IsStepRefused o ls end) h
    (λ r k. record {
      front = parts.lines;
      rest = parts.others;
      split = parts.whole;
      before = λ xs ys s e. taken.each xs ys s (sym parts.front_is ∙ e);
      refusal = u.refusal;
      refused = ap (λ z. judged_next o (has z) (steps_in parts.others)) parts.front_is
          ∙ (ap (λ z. judged_next o (has x.front) z) parts.rest_is
          ∙ (ap (λ m. judged_next o m x.rest) (sym taken.last) ∙ next_refused o x.after x.rest u.refusal x.refused));
      says = says_next parts.others end u.refusal r (subst (λ z. SaysFirst z end u.refusal r) (ap (slice_get ls) x.number ∙ parts.next) k);
    }) says
  where
    o : Outline
    o = step_outline b meshes p

    parts : Split ls x.front x.rest
    parts = split ls x.front x.rest (sym is ∙ x.split)

    none : nothing_taken ≡ has []
    none = λ i t. false

    taken : WellTaken o [] x.front x.after
    taken = well_taken o [] x.front x.after (subst (λ m. TakenAll o m x.front x.after) none x.took)
