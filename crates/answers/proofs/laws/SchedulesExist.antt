-- What a schedule is asked for by has steps, or a refusal.
use Rattle.std.proofs.Common.{◌≡◌, ◌↔◌, ◌⊎◌, inl, inr, ℕ, Bool, true, false, cond, List, [], ◌∷◌, ◌++◌, Option, Some, None, Result, Ok, Err, refl, sym, ap, ap₂, ◌∙◌, subst, append_assoc, append-nil}
use Rattle.std.proofs.lemmas.List.{map-append}
use Rattle.schedule_steps.specs.Outline.{Outline}
use Rattle.schedule_steps.specs.declared.step.Step.{Step}
use Rattle.schedule_steps.specs.Steps.{IsStep, Accepted, has}
use Rattle.schedule_steps.specs.Members.{has_push}
use Rattle.schedule_steps.specs.Standard.{standard}
use Rattle.schedule_steps.specs.Drawn.{IsDrawn}
use Rattle.schedule_steps.specs.Judged.{is_step, missing, left_over}
use Rattle.schedule_steps.specs.declared.text.lines.Line.{Line}
use Rattle.schedule_steps.specs.declared.text.refusals.ScheduleTextRefusal.TheVariants as text
use Rattle.schedule_steps.specs.Reading.{Read, Reads, Refuses}
use Rattle.step_judge.specs.declared.refusal.ScheduleRefusal.{ScheduleRefusal}
use Rattle.step_judge.specs.declared.refusal.ScheduleRefusal.TheVariants as taking
use Rattle.step_judge.specs.Verdicts.{judged, too_early, incomplete}
use Rattle.step_judge.specs.TakenAll.{TakenAll}
use Rattle.command_words.specs.Refusal.{Refusal, LeftStep}
use Rattle.answers.specs.Said.{SaysStep}
use Rattle.answers.specs.Judgements.{Order, InStandardOrder, BySeed, ByText, StepsOf, steps_in, end_line, IsStepRefused}
use Rattle.answers.proofs.laws.SaidOnce.{schedule_said}

-- ---- the places of a list with one more at its end

-- such a place is the last, or one of the list
abbrev AtPlace : {A : Type 0} (l : List A) (x : A) (xs : List A) (s : A) → Type 0
AtPlace {A} l x xs s = ((xs ≡ l) × (s ≡ x)) ⊎ ((zs : List A) × (l ≡ xs ++ s ∷ zs))

behind : {A : Type 0} (a b : A) (l : List A) (x : A) (xs : List A) (s : A) → a ≡ b → AtPlace l x xs s → AtPlace (a ∷ l) x (b ∷ xs) s
behind a b l x xs s e (inl h) = inl (ap₂ (λ v vs. v ∷ vs) (sym e) h.0, h.1)
behind a b l x xs s e (inr h) = inr (h.0, ap₂ (λ v vs. v ∷ vs) e h.1)

last_or_before : {A : Type 0} (l : List A) (x : A) (xs : List A) (s : A) (ys : List A) → l ++ x ∷ [] ≡ xs ++ s ∷ ys → AtPlace l x xs s
last_or_before [] x [] s ys e = inl (refl, let f : s ≡ x = cc in f)
last_or_before [] x (a ∷ []) s ys e = absurd (let bad : ⊥ = cc in bad)
last_or_before [] x (a ∷ b ∷ xs) s ys e = absurd (let bad : ⊥ = cc in bad)
last_or_before (a ∷ l) x [] s ys e = inr (l, ap (λ v. v ∷ l) (let f : a ≡ s = cc in f))
last_or_before (a ∷ l) x (b ∷ xs) s ys e =
    behind a b l x xs s (let f : a ≡ b = cc in f) (last_or_before l x xs s ys (let f : l ++ x ∷ [] ≡ xs ++ s ∷ ys = cc in f))

steps_cut : (front rest : List Line) → steps_in (front ++ rest) ≡ steps_in front ++ steps_in rest
steps_cut front rest = map-append (λ (l : Line). l.step) front rest

-- ---- a step that is refused

not_left : (a b : Bool) (x : Option Step) (t : Step) → cond a (cond b (Err taking.Repeated) (too_early x)) (Err taking.NoSuchStep) ≡ Err (taking.Incomplete t) → ⊥
not_left true true x t e = cc
not_left true false None t e = cc
not_left true false (Some u) t e = cc
not_left false b x t e = cc

module _ (taken_whole : (o : Outline) (m n : Step → Bool) (l : List Step) → ((t : Step) → IsStep o t → m t ≡ false) → TakenAll o m l n → Accepted o l ↔ (left_over o n ≡ None)) (o : Outline) where
  step_said : (l : Line) (m : Step → Bool) (e : ScheduleRefusal) → judged o m l.step ≡ Err e → (r : Refusal) × SaysStep l e r
  step_said l m taking.NoSuchStep is = (_, refl)
  step_said l m taking.Repeated is = (_, refl)
  step_said l m (taking.TooEarly t) is = (_, refl)
  step_said l m (taking.Incomplete t) is = absurd (not_left (is_step o l.step) (m l.step) (missing o m l.step) t is)

  -- ---- the steps one after another

  -- each is judged well where those before it are taken
  abbrev TakenWell : List Step → Type 0
  TakenWell l = (xs ys : List Step) (s : Step) → l ≡ xs ++ s ∷ ys → judged o (has xs) s ≡ Ok tt

  none_taken : TakenWell []
  none_taken [] ys s e = absurd (let bad : ⊥ = cc in bad)
  none_taken (x ∷ xs) ys s e = absurd (let bad : ⊥ = cc in bad)

  one_more : (l : List Step) (x : Step) → TakenWell l → judged o (has l) x ≡ Ok tt → TakenWell (l ++ x ∷ [])
  one_more l x h j xs ys s e = by_place (last_or_before l x xs s ys e)
    where
      by_place : AtPlace l x xs s → judged o (has xs) s ≡ Ok tt
      by_place (inl at) = rw (at.0, at.1) j
      by_place (inr at) = h xs at.0 s at.1

  module _ (ls : List Line) (end : ℕ) where
    -- all are taken, or one is refused
    abbrev WellOrNot : List Line → List Line → Type 0
    WellOrNot front rest =
        (TakenAll o (has (steps_in front)) (steps_in rest) (has (steps_in ls)) × TakenWell (steps_in ls)) ⊎ ((r : Refusal) × IsStepRefused o ls end r)

    refused_at : (front : List Line) (x : Line) (rest : List Line) (e : ScheduleRefusal) → ls ≡ front ++ x ∷ rest → TakenWell (steps_in front)
        → judged o (has (steps_in front)) x.step ≡ Err e → (r : Refusal) × IsStepRefused o ls end r
    refused_at front x rest e cut h is =
        let said = step_said x (has (steps_in front)) e is in
        (said.0, record { front = front; rest = x ∷ rest; split = cut; before = h; refusal = e; refused = is; says = said.1 })

    taken_from : (front rest : List Line) → ls ≡ front ++ rest → TakenWell (steps_in front) → WellOrNot front rest
    taken_from front [] cut h = let e = cut ∙ append-nil front in inl ((λ t. ap (λ z. has (steps_in z) t) e), subst (λ z. TakenWell (steps_in z)) (sym e) h)
    taken_from front (x ∷ rest) cut h =
        by_judged (judged o (has (steps_in front)) x.step) refl
        (λ is. taken_from (front ++ x ∷ []) rest (cut ∙ sym (append_assoc front (x ∷ []) rest)) (subst TakenWell (sym longer) (one_more (steps_in front) x.step h is)))
      where
        longer : steps_in (front ++ x ∷ []) ≡ steps_in front ++ x.step ∷ []
        longer = steps_cut front (x ∷ [])

        first : judged o (has (steps_in front)) x.step ≡ Ok tt → WellOrNot (front ++ x ∷ []) rest → WellOrNot front (x ∷ rest)
        first is (inl all) = inl ((is, (has (steps_in (front ++ x ∷ [])), (λ t. ap (λ z. has z t) longer ∙ has_push (steps_in front) x.step t), all.0)), all.1)
        first is (inr r) = inr r

        by_judged : (j : Result (Unit {0}) ScheduleRefusal) → judged o (has (steps_in front)) x.step ≡ j
            → (judged o (has (steps_in front)) x.step ≡ Ok tt → WellOrNot (front ++ x ∷ []) rest) → WellOrNot front (x ∷ rest)
        by_judged (Ok u) is on = first is (on is)
        by_judged (Err e) is on = inr (refused_at front x rest e cut h is)

    left_at_end : (t : Step) → left_over o (has (steps_in ls)) ≡ Some t → TakenWell (steps_in ls) → IsStepRefused o ls end (LeftStep end t)
    left_at_end t is h =
        record { front = ls; rest = []; split = sym (append-nil ls); before = h; refusal = taking.Incomplete t; refused = ap incomplete is; says = refl }

    accepted_or_refused : Accepted o (steps_in ls) ⊎ ((r : Refusal) × IsStepRefused o ls end r)
    accepted_or_refused = by_walk (taken_from [] ls refl none_taken)
      where
        by_left : (t : Option Step) → left_over o (has (steps_in ls)) ≡ t → TakenAll o (has []) (steps_in ls) (has (steps_in ls))
            → TakenWell (steps_in ls) → Accepted o (steps_in ls) ⊎ ((r : Refusal) × IsStepRefused o ls end r)
        by_left None is all h = inl ((taken_whole o (has []) (has (steps_in ls)) (steps_in ls) (λ t s. refl) all).1 is)
        by_left (Some t) is all h = inr (LeftStep end t, left_at_end t is h)

        by_walk : WellOrNot [] ls → Accepted o (steps_in ls) ⊎ ((r : Refusal) × IsStepRefused o ls end r)
        by_walk (inl w) = by_left (left_over o (has (steps_in ls))) refl w.0 w.1
        by_walk (inr r) = inr r

  -- ---- all

  module _ (drawn : (o : Outline) (g seed : ℕ) → (l : List Step) × IsDrawn o g seed l)
      (some_read : (bytes : List ℕ) → (r : Read) × Reads bytes r) (causes : (bytes : List ℕ) → ¬ Refuses bytes text.OutOfMemory) (g : ℕ)
    where
      texts_exist : (bytes : List ℕ) → ¬ ((r : Result (List Step) Refusal) → ¬ StepsOf o g (ByText bytes) r)
      texts_exist bytes none = by_read (some_read bytes).0 (some_read bytes).1
        where
          by_steps : (ls : List Line) → Reads bytes (Ok ls) → Accepted o (steps_in ls) ⊎ ((r : Refusal) × IsStepRefused o ls (end_line bytes) r) → ⊥
          by_steps ls h (inl a) = none (Ok (steps_in ls)) (ls, h, refl, a)
          by_steps ls h (inr r) = none (Err r.0) (inr (ls, h, r.1))

          by_read : (r : Read) → ¬ Reads bytes r
          by_read (Ok ls) h = by_steps ls h (accepted_or_refused ls (end_line bytes))
          by_read (Err e) h = let said = schedule_said e (λ m. causes bytes (subst (λ f. Refuses bytes f) m h)) in none (Err said.0) (inl (e, h, said.1))

      pub steps_exist : (order : Order) → ¬ ((r : Result (List Step) Refusal) → ¬ StepsOf o g order r)
      steps_exist InStandardOrder none = none (Ok (standard o g)) refl
      steps_exist (BySeed seed) none = let d = drawn o g seed in none (Ok d.0) d.1
      steps_exist (ByText bytes) none = texts_exist bytes none
