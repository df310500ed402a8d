-- The steps of a schedule are one, and so is their refusal.
use Rattle.std.proofs.Common.{◌≡◌, ◌↔◌, inl, inr, ℕ, Bool, true, false, List, [], ◌∷◌, ◌++◌, Option, Some, None, Result, Ok, Err, refl, sym, ap, ap₂, ◌∙◌, subst, append-nil}
use Rattle.std.proofs.lemmas.List.{map-append}
use Rattle.schedule_steps.specs.Outline.{Outline}
use Rattle.schedule_steps.specs.declared.step.Step.{Step}
use Rattle.schedule_steps.specs.Steps.{IsStep, Earlier, has, Accepted}
use Rattle.schedule_steps.specs.Drawn.{IsDrawn}
use Rattle.schedule_steps.specs.Standard.{standard}
use Rattle.schedule_steps.specs.Judged.{is_step, missing, left_over}
use Rattle.schedule_steps.specs.declared.text.lines.Line.{Line}
use Rattle.schedule_steps.specs.Reading.{Read, Reads}
use Rattle.step_judge.specs.declared.refusal.ScheduleRefusal.{ScheduleRefusal}
use Rattle.step_judge.specs.Verdicts.{judged, ended, too_early, incomplete}
use Rattle.op_outside.specs.Outside.{Files}
use Rattle.command_words.specs.Refusal.{Refusal, ScheduleBytes}
use Rattle.answers.specs.Said.{SaysSchedule, SaysNext}
use Rattle.command_words.specs.Words.{Schedule, Standard, Drawn, Written}
use Rattle.answers.specs.Judgements.{Order, InStandardOrder, BySeed, ByText, OrderOf, StepsOf, steps_in, end_line, IsTextRefused, judged_next, IsStepRefused}
use Rattle.answers.proofs.laws.IsOne.{IsOne, held_is_one, told_is_one}
use Rattle.answers.proofs.laws.SaidOnce.{schedule_once, next_once}
use Rattle.lemmas.proofs.Truth.{not_both}

pub order_is_one : (s : Schedule) (files : Files) → IsOne (OrderOf s files)
order_is_one Standard files = told_is_one InStandardOrder
order_is_one (Drawn seed) files = told_is_one (BySeed seed)
order_is_one (Written name) files =
    let held = held_is_one ScheduleBytes name (files name) in
    record {
      refusals = held.refusals;
      apart = λ r x h k. held.apart r k.0 h k.1;
      values = λ x y h k. h.2 ∙ ap ByText (held.values h.0 k.0 h.1 k.1) ∙ sym k.2;
    }

-- ---- two fronts of one list

-- two cuts of one list: at one place, or one front goes on behind the other
data Cuts {A : Type 0} (xs ys zs ws : List A) : Type 0 where
  Same : xs ≡ zs → ys ≡ ws → Cuts xs ys zs ws
  Earlier_cut : (y : A) (more rest : List A) → zs ≡ xs ++ y ∷ more → ys ≡ y ∷ rest → Cuts xs ys zs ws
  Later_cut : (y : A) (more rest : List A) → xs ≡ zs ++ y ∷ more → ws ≡ y ∷ rest → Cuts xs ys zs ws

behind : {A : Type 0} (x z : A) (xs ys zs ws : List A) → x ≡ z → Cuts xs ys zs ws → Cuts (x ∷ xs) ys (z ∷ zs) ws
behind x z xs ys zs ws e (Same f g) = Same (ap₂ (λ v vs. v ∷ vs) e f) g
behind x z xs ys zs ws e (Earlier_cut y more rest f g) = Earlier_cut y more rest (ap₂ (λ v vs. v ∷ vs) (sym e) f) g
behind x z xs ys zs ws e (Later_cut y more rest f g) = Later_cut y more rest (ap₂ (λ v vs. v ∷ vs) e f) g

cuts : {A : Type 0} (xs ys zs ws : List A) → xs ++ ys ≡ zs ++ ws → Cuts xs ys zs ws
cuts [] ys [] ws e = Same refl e
cuts [] ys (z ∷ zs) ws e = Earlier_cut z zs (zs ++ ws) refl e
cuts (x ∷ xs) ys [] ws e = Later_cut x xs (xs ++ ys) refl (sym e)
cuts (x ∷ xs) ys (z ∷ zs) ws e =
    behind x z xs ys zs ws (let f : x ≡ z = cc in f) (cuts xs ys zs ws (let f : xs ++ ys ≡ zs ++ ws = cc in f))

steps_cut : (front rest : List Line) → steps_in (front ++ rest) ≡ steps_in front ++ steps_in rest
steps_cut front rest = map-append (λ (l : Line). l.step) front rest

-- ---- the first step that is refused

well_or_not : (x : Result (Unit {0}) ScheduleRefusal) (e : ScheduleRefusal) → x ≡ Ok tt → x ≡ Err e → ⊥
well_or_not x e h k = let f : Ok tt ≡ Err e = sym h ∙ k in cc

module _ (o : Outline) where
  -- it is not among the steps before another
  not_before : (ls : List Line) (end : ℕ) (r s : Refusal) (h : IsStepRefused o ls end r) (k : IsStepRefused o ls end s) (l : Line) (more rest : List Line)
      → k.front ≡ h.front ++ l ∷ more → h.rest ≡ l ∷ rest → ⊥
  not_before ls end r s h k l more rest e f =
      well_or_not (judged o (has (steps_in h.front)) l.step) h.refusal
      (k.before (steps_in h.front) (steps_in more) l.step (ap steps_in e ∙ steps_cut h.front (l ∷ more)))
      (subst (λ z. judged_next o (has (steps_in h.front)) (steps_in z) ≡ Err h.refusal) f h.refused)

  same_refused : (ls : List Line) (end : ℕ) (r s : Refusal) (h : IsStepRefused o ls end r) (k : IsStepRefused o ls end s) → h.front ≡ k.front → h.rest ≡ k.rest → r ≡ s
  same_refused ls end r s h k e f =
      next_once h.rest end h.refusal r s h.says (subst (λ x. SaysNext h.rest end x s) (sym refusals) (subst (λ z. SaysNext z end k.refusal s) (sym f) k.says))
    where
      moved : judged_next o (has (steps_in h.front)) (steps_in h.rest) ≡ Err k.refusal
      moved = ap₂ (λ xs ys. judged_next o (has (steps_in xs)) (steps_in ys)) e f ∙ k.refused

      refusals : h.refusal ≡ k.refusal
      refusals = let g : Err h.refusal ≡ Err k.refusal = sym h.refused ∙ moved in let same : h.refusal ≡ k.refusal = cc in same

  steps_once : (ls : List Line) (end : ℕ) (r s : Refusal) → IsStepRefused o ls end r → IsStepRefused o ls end s → r ≡ s
  steps_once ls end r s h k = by_cuts (cuts h.front h.rest k.front k.rest (sym h.split ∙ k.split))
    where
      by_cuts : Cuts h.front h.rest k.front k.rest → r ≡ s
      by_cuts (Same e f) = same_refused ls end r s h k e f
      by_cuts (Earlier_cut l more rest e f) = absurd (not_before ls end r s h k l more rest e f)
      by_cuts (Later_cut l more rest e f) = absurd (not_before ls end s r k h l more rest e f)

-- ---- accepted steps

module _ (steps_decide : (o : Outline) (s : Step) → (is_step o s ≡ true) ↔ IsStep o s)
    (missing_is : (o : Outline) (m : Step → Bool) (s t : Step) → missing o m s ≡ Some t → IsStep o t × Earlier o t s × (m t ≡ false))
    (left_is : (o : Outline) (m : Step → Bool) (t : Step) → left_over o m ≡ Some t → IsStep o t × (m t ≡ false)) where
  module _ (o : Outline) where
    -- no step of an accepted list is refused in its turn
    taken_well : (pre : List Step) (s : Step) (post : List Step) → Accepted o (pre ++ s ∷ post) → judged o (has pre) s ≡ Ok tt
    taken_well pre s post a = rw ((steps_decide o s).1 (a.steps pre s post refl), a.once pre s post refl) (by_missing (missing o (has pre) s) refl)
      where
        by_missing : (t : Option Step) → missing o (has pre) s ≡ t → too_early t ≡ Ok tt
        by_missing None is = refl
        by_missing (Some t) is = let m = missing_is o (has pre) s t is in absurd (not_both (has pre t) (a.order pre s post refl t m.0 m.1) m.2)

    -- and none is left at the end
    ends_well : (l : List Step) → Accepted o l → ended o (has l) ≡ Ok tt
    ends_well l a = by_left (left_over o (has l)) refl
      where
        by_left : (t : Option Step) → left_over o (has l) ≡ t → incomplete t ≡ Ok tt
        by_left None is = refl
        by_left (Some t) is = let m = left_is o (has l) t is in absurd (not_both (has l t) (a.whole t m.0) m.1)

    next_well : (front rest : List Step) → Accepted o (front ++ rest) → judged_next o (has front) rest ≡ Ok tt
    next_well front [] a = ends_well front (subst (Accepted o) (append-nil front) a)
    next_well front (s ∷ rest) a = taken_well front s rest a

    not_accepted : (ls : List Line) (end : ℕ) (r : Refusal) → IsStepRefused o ls end r → ¬ Accepted o (steps_in ls)
    not_accepted ls end r h a =
        well_or_not (judged_next o (has (steps_in h.front)) (steps_in h.rest)) h.refusal
        (next_well (steps_in h.front) (steps_in h.rest) (subst (Accepted o) (ap steps_in h.split ∙ steps_cut h.front h.rest) a))
        h.refused

  -- ---- all

  module _ (one_read : (bytes : List ℕ) (a b : Read) → Reads bytes a → Reads bytes b → a ≡ b)
      (drawn_once : (o : Outline) (g seed : ℕ) (l n : List Step) → IsDrawn o g seed l → IsDrawn o g seed n → l ≡ n) (o : Outline) (g : ℕ)
    where
      same_lines : (bytes : List ℕ) (ls ns : List Line) → Reads bytes (Ok ls) → Reads bytes (Ok ns) → ls ≡ ns
      same_lines bytes ls ns h k = let e : ◌≡◌ {A = Read} (Ok ls) (Ok ns) = one_read bytes (Ok ls) (Ok ns) h k in let same : ls ≡ ns = cc in same

      text_apart : (bytes : List ℕ) (r : Refusal) (ls : List Line) → IsTextRefused bytes r → Reads bytes (Ok ls) → ⊥
      text_apart bytes r ls h k = let e : ◌≡◌ {A = Read} (Err h.0) (Ok ls) = one_read bytes (Err h.0) (Ok ls) h.1 k in let bad : ⊥ = cc in bad

      texts_once : (bytes : List ℕ) (r s : Refusal) → IsTextRefused bytes r → IsTextRefused bytes s → r ≡ s
      texts_once bytes r s h k =
          let e : ◌≡◌ {A = Read} (Err k.0) (Err h.0) = one_read bytes (Err k.0) (Err h.0) k.1 h.1 in
          let same : k.0 ≡ h.0 = cc in
          schedule_once h.0 r s h.2 (subst (λ f. SaysSchedule f s) same k.2)

      text_refusals : (bytes : List ℕ) (r s : Refusal) → StepsOf o g (ByText bytes) (Err r) → StepsOf o g (ByText bytes) (Err s) → r ≡ s
      text_refusals bytes r s (inl h) (inl k) = texts_once bytes r s h k
      text_refusals bytes r s (inl h) (inr k) = absurd (text_apart bytes r k.0 h k.1)
      text_refusals bytes r s (inr h) (inl k) = absurd (text_apart bytes s h.0 k h.1)
      text_refusals bytes r s (inr h) (inr k) =
          steps_once o h.0 (end_line bytes) r s h.2 (subst (λ ls. IsStepRefused o ls (end_line bytes) s) (same_lines bytes k.0 h.0 k.1 h.1) k.2)

      refused_or_accepted : (bytes : List ℕ) (r : Refusal) (l : List Step) → StepsOf o g (ByText bytes) (Err r) → StepsOf o g (ByText bytes) (Ok l) → ⊥
      refused_or_accepted bytes r l (inl h) k = text_apart bytes r k.0 h k.1
      refused_or_accepted bytes r l (inr h) k =
          not_accepted o h.0 (end_line bytes) r h.2 (subst (Accepted o) (k.2 ∙ ap steps_in (same_lines bytes k.0 h.0 k.1 h.1)) k.3)

      pub steps_are_one : (order : Order) → IsOne (StepsOf o g order)
      steps_are_one InStandardOrder = told_is_one (standard o g)
      steps_are_one (BySeed seed) = record {
        refusals = λ r s h k. absurd h;
        apart = λ r x h k. h;
        values = λ x y h k. drawn_once o g seed x y h k;
      }
      steps_are_one (ByText bytes) = record {
        refusals = λ r s h k. text_refusals bytes r s h k;
        apart = λ r l h k. refused_or_accepted bytes r l h k;
        values = λ x y h k. h.2 ∙ ap steps_in (same_lines bytes h.0 k.0 h.1 k.1) ∙ sym k.2;
      }
