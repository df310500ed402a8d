-- The first wanted place, one place after another.
use Rattle.std.proofs.Common.{◌≡◌, ℕ, ◌+◌, ◌<◌, Bool, true, false, inl, inr, sym, ap, subst, ◌∙◌, arith, ⊎_elim, [], ◌∷◌, Option, Some, None, length}
use Rattle.std.specs.Prelude.{nat_lt}
use Rattle.std.proofs.lemmas.Bool.{cases_eq, false≢true, and_parts, cond-true, cond-false, or_cases, ltb-true}
use Rattle.schedule_steps.specs.Outline.{Outline, runs, by_colour}
use Rattle.schedule_steps.specs.declared.step.Step.{Step}
use Rattle.schedule_steps.specs.declared.step.Step.TheVariants.{Begin, End}
use Rattle.schedule_steps.specs.Steps.{IsStep}
use Rattle.schedule_steps.specs.Judged.{first_of}
use Rattle.schedule_steps.specs.Firsts.{goes_first, meets, IsFirst}
use Rattle.step_judge.specs.Item.{run_at}
use Rattle.step_judge.specs.Marked.{Marked, item_at, outline_of}
use Rattle.step_judge.specs.Wanted.{AreMarksOf, FirstBelow}

module _ (o : Outline) (f : Step → Bool) (k r : ℕ) where
  -- a place that doesn't meet the test
  pub kept : (n : ℕ) (best : Option ℕ) → meets f k r n ≡ false → FirstBelow o f k r n best → FirstBelow o f k r (n + 1) best
  kept n None m h = λ y l run. ⊎_elim
      (λ (e : y ≡ n). ap (meets f k r) e ∙ m)
      (λ (ne : y ≡ n → ⊥). h y (omega arith) run)
      (cases_eq y n)
  kept n (Some x) m h = (
    let l : x < n = h.0 in omega arith,
    h.1,
    h.2,
    λ y l run w. ⊎_elim
        (λ (e : y ≡ n). absurd (false≢true (sym (ap (meets f k r) e ∙ m) ∙ w)))
        (λ (ne : y ≡ n → ⊥). h.3 y (omega arith) run w)
        (cases_eq y n),
  )

  -- one of a lower colour than the first so far
  pub lower : (n x : ℕ)
      → runs o k r n ≡ true
      → meets f k r n ≡ true
      → goes_first o k r n x ≡ true
      → ((y : ℕ) → goes_first o k r n x ≡ true → goes_first o k r x y ≡ true → goes_first o k r n y ≡ true)
      → FirstBelow o f k r n (Some x)
      → FirstBelow o f k r (n + 1) (Some n)
  lower n x run m before on h = (
    omega arith,
    run,
    m,
    λ y l runs w. ⊎_elim
        (λ (e : y ≡ n). inl e)
        (λ (ne : y ≡ n → ⊥). inr (⊎_elim
        (λ (e : y ≡ x). subst (λ z. goes_first o k r n z ≡ true) (sym e) before)
        (λ g. on y before g)
        (h.3 y (omega arith) runs w)))
        (cases_eq y n),
  )

  -- one that goes after the first so far
  pub stays : (n x : ℕ) → goes_first o k r x n ≡ true → FirstBelow o f k r n (Some x) → FirstBelow o f k r (n + 1) (Some x)
  stays n x after h = (
    let l : x < n = h.0 in omega arith,
    h.1,
    h.2,
    λ y l run w. ⊎_elim
        (λ (e : y ≡ n). inr (subst (λ z. goes_first o k r x z ≡ true) (sym e) after))
        (λ (ne : y ≡ n → ⊥). h.3 y (omega arith) run w)
        (cases_eq y n),
  )

module _ (v : Marked) (o : Outline) (marks : AreMarksOf o v) (k r : ℕ) where
  -- what the rank runs
  pub runs_here : (x : ℕ) → IsStep (outline_of v) (Begin k r x) → runs o k r x ≡ true
  runs_here x st = sym (marks.alike.executed k r x st.0 st.1 st.2) ∙ st.3

  pub colours_here : (x y : ℕ) → IsStep (outline_of v) (Begin k r x) → IsStep (outline_of v) (Begin k r y) → by_colour (outline_of v) k r x y ≡ by_colour o k r x y
  colours_here x y sx sy = marks.alike.colours k r x y sx.0 sx.1 sx.2 sx.3 sy.3

  module _ (f : Step → Bool) (item : k < length v.items) (free : (item_at v k).free ≡ true) (rank : r < v.ranks) where
    below_count : (y : ℕ) → runs o k r y ≡ true → y < length (run_at (item_at v k) r).begun
    below_count y run =
        let n : runs (outline_of v) k r y ≡ true = marks.alike.executed k r y item free rank ∙ run in
        ltb-true y (length (run_at (item_at v k) r).begun) (and_parts (nat_lt y (length (run_at (item_at v k) r).begun)) true n).0

    -- no place meets the test
    pub none_meets : ((y : ℕ) → y < length (run_at (item_at v k) r).begun → runs o k r y ≡ true → meets f k r y ≡ false)
        → (y : ℕ) → runs o k r y ≡ true → meets f k r y ≡ false
    none_meets h y run = h y (below_count y run) run

    -- the first of all places
    pub first_is : (x : ℕ) → FirstBelow o f k r (length (run_at (item_at v k) r).begun) (Some x) → IsFirst o f k r x
    first_is x h = record { is_run = h.1; is_met = h.2; first = λ y run m. h.3 y (below_count y run) run m }

-- its begin, or else its end
pub begin_first : (f : Step → Bool) (k r x : ℕ) → f (Begin k r x) ≡ true → first_of f (Begin k r x ∷ (End k r x ∷ [])) ≡ Some (Begin k r x)
begin_first f k r x h = cond-true (f (Begin k r x)) (Some (Begin k r x)) (first_of f (End k r x ∷ [])) h

pub end_first : (f : Step → Bool) (k r x : ℕ) → meets f k r x ≡ true → f (Begin k r x) ≡ false → first_of f (Begin k r x ∷ (End k r x ∷ [])) ≡ Some (End k r x)
end_first f k r x m h =
    let e : f (End k r x) ≡ true = ⊎_elim (λ b. absurd (false≢true (sym h ∙ b))) (λ b. b) (or_cases (f (Begin k r x)) (f (End k r x)) m) in
    cond-false (f (Begin k r x)) (Some (Begin k r x)) (first_of f (End k r x ∷ [])) h ∙ cond-true (f (End k r x)) (Some (End k r x)) None e
