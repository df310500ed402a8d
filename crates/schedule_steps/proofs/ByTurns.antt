-- A list is accepted exactly where the turns take it.
use Rattle.std.proofs.Common.{◌≡◌, Bool, true, refl, sym, ap, subst, ◌∙◌, List, [], ◌∷◌, ◌++◌, append_assoc, append-nil}
use Rattle.std.specs.Prelude.{◌||◌, ◌↔◌}
use Rattle.schedule_steps.specs.Outline.{Outline}
use Rattle.schedule_steps.specs.declared.step.Step.{Step}
use Rattle.schedule_steps.specs.Steps.{IsStep, same, has, Accepted}
use Rattle.schedule_steps.specs.Members.{has_push}
use Rattle.schedule_steps.specs.Turns.{Takes, marked, Turns, nothing_taken}
use Rattle.lemmas.proofs.Truth.{or_swap}
use Rattle.std.proofs.Math.Bool.{or-false}

-- the marks after a list
abbrev after : List Step → (Step → Bool) → Step → Bool
after l m t = has l t || m t

after_more : (s : Step) (l : List Step) (m : Step → Bool) → after l (marked s m) ≡ after (s ∷ l) m
after_more s l m = λ i t. or_swap (has l t) (same t s) (m t) i

module _ (o : Outline) where
  turn_at : (pre : List Step) (s : Step) (post : List Step) (m : Step → Bool) → Turns o m (pre ++ (s ∷ post)) → Takes o (after pre m) s
  turn_at [] s post m h = h.0
  turn_at (u ∷ pre) s post m h = subst (λ z. Takes o z s) (after_more u pre m) (turn_at pre s post (marked u m) h.1)

  turns_end : (l : List Step) (m : Step → Bool) → Turns o m l → (s : Step) → IsStep o s → after l m s ≡ true
  turns_end [] m h s plan = h s plan
  turns_end (u ∷ l) m h s plan = ap (λ z. z s) (sym (after_more u l m)) ∙ turns_end l (marked u m) h.1 s plan

  pub from_turns : (l : List Step) → Turns o nothing_taken l → Accepted o l
  from_turns l h = record {
    whole = λ s plan. sym (or-false (has l s)) ∙ turns_end l nothing_taken h s plan;
    steps = λ pre s post e. (at pre s post e).planned;
    once = λ pre s post e. sym (or-false (has pre s)) ∙ (at pre s post e).untaken;
    order = λ pre s post e t plan early. sym (or-false (has pre t)) ∙ (at pre s post e).after t plan early;
  }
    where
      at : (pre : List Step) (s : Step) (post : List Step) → l ≡ pre ++ (s ∷ post) → Takes o (after pre nothing_taken) s
      at pre s post e = turn_at pre s post nothing_taken (subst (Turns o nothing_taken) e h)

  to_turns : (l : List Step) → Accepted o l → (post pre : List Step) → l ≡ pre ++ post → Turns o (has pre) post
  to_turns l acc [] pre e = λ s plan. ap (λ z. has z s) (sym (append-nil pre) ∙ sym e) ∙ acc.whole s plan
  to_turns l acc (s ∷ post) pre e = (
    record { planned = acc.steps pre s post e; untaken = acc.once pre s post e; after = acc.order pre s post e },
    subst (λ m. Turns o m post) (λ i t. has_push pre s t i) (to_turns l acc post (pre ++ (s ∷ [])) (e ∙ sym (append_assoc pre (s ∷ []) post))),
  )

  pub by_turns : (l : List Step) → Accepted o l ↔ Turns o nothing_taken l
  by_turns l = ((λ acc. to_turns l acc l [] refl), (λ h. from_turns l h))
