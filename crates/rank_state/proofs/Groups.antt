-- The begins of a group in an accepted list.
use Rattle.std.proofs.Common.{◌≡◌, ℕ, true, false, refl, sym, ap, ◌∙◌, ⊎_elim, List, [], ◌∷◌, ◌++◌, append_assoc}
use Rattle.std.specs.Prelude.{◌==◌, ◌||◌, ◌&&◌, not}
use Rattle.std.proofs.lemmas.Bool.{cases_Bool, false≢true, false_from_ne_true, eqb-true, eq-eqb}
use Rattle.schedule_steps.specs.declared.step.Step.{Step}
use Rattle.schedule_steps.specs.declared.step.Step.TheVariants.{Begin, End}
use Rattle.schedule_steps.specs.Outline.{Outline}
use Rattle.schedule_steps.specs.Steps.{has, Accepted}
use Rattle.schedule_steps.specs.Members.{has_left, has_at}
use Rattle.schedule_steps.specs.UnderWay.{is_open}
use Rattle.rank_state.specs.Groups.{begins, is_in, Distinct, Planned}

-- nothing is open at the rank's places after the front
abbrev pub Closed : ℕ → List Step → List ℕ → Type 0
Closed r front [] = Unit {0}
Closed r front (x ∷ xs) = ((j : ℕ) → is_open front j r x ≡ false) × Closed r front xs

module _ (o : Outline) (all : List Step) (acc : Accepted o all) (left : List Step) (k r : ℕ) where
  onward : (pre : List Step) (x : ℕ) (xs : List ℕ) → all ≡ pre ++ (begins k r (x ∷ xs) ++ left) → all ≡ (pre ++ (Begin k r x ∷ [])) ++ (begins k r xs ++ left)
  onward pre x xs e = e ∙ sym (append_assoc pre (Begin k r x ∷ []) (begins k r xs ++ left))

  pub planned_from : (pre : List Step) (xs : List ℕ) → all ≡ pre ++ (begins k r xs ++ left) → Planned o k r xs
  planned_from pre [] e = tt
  planned_from pre (x ∷ xs) e = (acc.steps pre (Begin k r x) (begins k r xs ++ left) e, planned_from (pre ++ (Begin k r x ∷ [])) xs (onward pre x xs e))

  -- what has begun doesn't begin again
  later : (x : ℕ) (pre : List Step) (xs : List ℕ) → all ≡ pre ++ (begins k r xs ++ left) → has pre (Begin k r x) ≡ true → is_in x xs ≡ false
  later x pre [] e i = refl
  later x pre (y ∷ ys) e i = ⊎_elim
      (λ (q : (x == y) ≡ true). absurd (false≢true (sym (acc.once pre (Begin k r y) (begins k r ys ++ left) e) ∙ (ap (λ z. has pre (Begin k r z)) (sym (eqb-true x y q)) ∙ i))))
      (λ (q : (x == y) ≡ false). ap (λ b. b || is_in x ys) q ∙ later x (pre ++ (Begin k r y ∷ [])) ys (onward pre y ys e) (has_left pre (Begin k r y ∷ []) (Begin k r x) i))
      (cases_Bool (x == y))

  pub distinct_from : (pre : List Step) (xs : List ℕ) → all ≡ pre ++ (begins k r xs ++ left) → Distinct xs
  distinct_from pre [] e = tt
  distinct_from pre (x ∷ xs) e = (
    later x (pre ++ (Begin k r x ∷ [])) xs (onward pre x xs e) (has_at pre (Begin k r x) []),
    distinct_from (pre ++ (Begin k r x ∷ [])) xs (onward pre x xs e),
  )

  closed_from : (front : List Step) → ((j f : ℕ) → (j ≡ k → ⊥) → is_open front j r f ≡ false) → (pre : List Step) → ((s : Step) → has front s ≡ true → has pre s ≡ true)
      → (xs : List ℕ) → all ≡ pre ++ (begins k r xs ++ left) → Closed r front xs
  closed_from front other pre up [] e = tt
  closed_from front other pre up (x ∷ xs) e = (
    λ j. ⊎_elim
        (λ (q : (j == k) ≡ true).
        let new : has front (Begin k r x) ≡ false = false_from_ne_true (has front (Begin k r x)) (λ i. false≢true (sym (acc.once pre (Begin k r x) (begins k r xs ++ left) e) ∙ up (Begin k r x) i)) in
        ap (λ i. is_open front i r x) (eqb-true j k q) ∙ ap (λ b. b && not (has front (End k r x))) new)
        (λ (q : (j == k) ≡ false). other j x (λ i. false≢true (sym q ∙ eq-eqb j k i)))
        (cases_Bool (j == k)),
    closed_from front other (pre ++ (Begin k r x ∷ [])) (λ s i. has_left pre (Begin k r x ∷ []) s (up s i)) xs (onward pre x xs e),
  )

  pub group_closed : ((pre post : List Step) (k r e : ℕ) → all ≡ pre ++ (Begin k r e ∷ post) → (is_open pre k r e ≡ false) × ((j f : ℕ) → (j ≡ k → ⊥) → is_open pre j r f ≡ false))
      → (front : List Step) (xs : List ℕ) → all ≡ front ++ (begins k r xs ++ left) → Closed r front xs
  group_closed fits front [] e = tt
  group_closed fits front (x ∷ xs) e = closed_from front (fits front (begins k r xs ++ left) k r x e).1 front (λ s i. i) (x ∷ xs) e
