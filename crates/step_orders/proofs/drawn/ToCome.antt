-- What is to come, as the steps that the turns take.
use Rattle.std.proofs.Common.{◌≡◌, ℕ, zero, suc, ◌≤◌, Bool, refl, sym, ap, ◌∙◌, arith, List, [], ◌∷◌, ◌++◌, length}
use Rattle.std.proofs.lemmas.List.{length-append}
use Rattle.schedule_steps.specs.Outline.{Outline}
use Rattle.schedule_steps.specs.declared.step.Step.{Step}
use Rattle.schedule_steps.specs.declared.step.Step.TheVariants.{Join}
use Rattle.schedule_steps.specs.Steps.{Accepted, has}
use Rattle.schedule_steps.specs.Turns.{marked}
use Rattle.schedule_steps.specs.Peaks.{step_count}
use Rattle.schedule_steps.specs.Drawn.{drawn_number, turn, put_left, TakenBy, DrawnFrom, Turn, Over, JoinOf, StepOf}
use Rattle.step_orders.specs.ToCome.{steps_of, steps_by, first_drawn, is_taken, to_come}
use Rattle.step_orders.specs.UnderWay.{IsUnderWay}
use Rattle.step_orders.proofs.drawn.Masks.{drawn_same}

-- a list that the turns take is that of their first steps, where it has no more than so many
firsts : (o : Outline) (n : ℕ) (l : List Step) (rest : ℕ → List Step) (m : Step → Bool) (x : ℕ) → length l ≤ n → DrawnFrom o rest m x l → first_drawn o n rest m x ≡ l
firsts o zero [] rest m x le d = refl
firsts o zero (s ∷ l) rest m x le d = absurd (omega arith)
firsts o (suc n) [] rest m x le d =
    ap (λ t. steps_by rest t (λ k. first_drawn o n rest (marked (Join k) m) x) (λ r s left. first_drawn o n (put_left r left rest) (marked s m) (drawn_number x))) d
firsts o (suc n) (s ∷ l) rest m x le d =
    by (turn o rest m x) d (λ w. firsts o n l rest (marked s m) x (omega arith) w)
    (λ r left w. firsts o n l (put_left r left rest) (marked s m) (drawn_number x) (omega arith) w)
  where
    by : (t : Turn) → TakenBy rest s t (DrawnFrom o rest (marked s m) x l) (λ r left. DrawnFrom o (put_left r left rest) (marked s m) (drawn_number x) l)
        → (DrawnFrom o rest (marked s m) x l → first_drawn o n rest (marked s m) x ≡ l)
        → ((r : ℕ) (left : List Step) → DrawnFrom o (put_left r left rest) (marked s m) (drawn_number x) l → first_drawn o n (put_left r left rest) (marked s m) (drawn_number x) ≡ l)
        → steps_by rest t (λ k. first_drawn o n rest (marked (Join k) m) x) (λ r s left. first_drawn o n (put_left r left rest) (marked s m) (drawn_number x)) ≡ s ∷ l
    by Over w j st = absurd w
    by (JoinOf k) w j st = ap (λ z. z ∷ first_drawn o n rest (marked z m) x) (sym w.0) ∙ ap (λ z. s ∷ z) (j w.1)
    by (StepOf r) w j st =
        ap (λ z. steps_of z (λ s left. first_drawn o n (put_left r left rest) (marked s m) (drawn_number x))) w.1 ∙ ap (λ z. s ∷ z) (st r w.0 w.2)

pub left_is : (o : Outline) (list coming : List Step) (rest : ℕ → List Step) (x join : ℕ) (below : ℕ → ℕ → ℕ)
    → ((l : List Step) → Accepted o l → length l ≡ step_count o)
    → IsUnderWay o list coming rest x join below
    → to_come o rest x join below ≡ coming
left_is o list coming rest x join below all u =
    firsts o (step_count o) coming rest (is_taken join below) x (omega (arith, all (list ++ coming) u.accepted, length-append list coming))
    (drawn_same o coming rest (has list) (is_taken join below) x u.planned (record { joins = u.joins; sends = u.sends }) u.turns)
