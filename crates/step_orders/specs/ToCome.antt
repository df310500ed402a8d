-- The steps that a drawn order still takes, by what it keeps of those that are taken.
use Rattle.std.specs.Prelude.{ℕ, zero, suc, Bool, false, nat_lt, List, [], ◌∷◌}
use Rattle.schedule_steps.specs.Outline.{Outline}
use Rattle.schedule_steps.specs.declared.step.Step.{Step}
use Rattle.schedule_steps.specs.declared.step.Step.TheVariants.{Send, Join}
use Rattle.schedule_steps.specs.Turns.{marked}
use Rattle.schedule_steps.specs.Peaks.{step_count}
use Rattle.schedule_steps.specs.Drawn.{drawn_number, turn, put_left, Turn, Over, JoinOf, StepOf}

-- the first step of what a rank has left, and what comes behind it
abbrev pub steps_of : List Step → (Step → List Step → List Step) → List Step
steps_of [] behind = []
steps_of (s ∷ left) behind = s ∷ behind s left

-- the step that the turn takes, and what comes behind it
abbrev pub steps_by : (ℕ → List Step) → Turn → (ℕ → List Step) → (ℕ → Step → List Step → List Step) → List Step
steps_by rest Over after_join after_step = []
steps_by rest (JoinOf k) after_join after_step = Join k ∷ after_join k
steps_by rest (StepOf r) after_join after_step = steps_of (rest r) (after_step r)

-- the first n steps that the turns take, where the ranks have their rests left, m is taken and the last number drawn is x
abbrev pub first_drawn : Outline → ℕ → (ℕ → List Step) → (Step → Bool) → ℕ → List Step
first_drawn o zero rest m x = []
first_drawn o (suc n) rest m x =
    steps_by
    rest
    (turn o rest m x)
    (λ k. first_drawn o n rest (marked (Join k) m) x)
    (λ r s left. first_drawn o n (put_left r left rest) (marked s m) (drawn_number x))

-- The joins before this one are taken, and by sender and receiver the sends of the items below these. Turns ask for no other steps.
abbrev pub is_taken : ℕ → (ℕ → ℕ → ℕ) → Step → Bool
is_taken join below (Send k s r) = nat_lt k (below s r)
is_taken join below (Join k) = nat_lt k join
is_taken join below t = false

-- all steps that the turns still take: no order has more steps than the plan
abbrev pub to_come : Outline → (ℕ → List Step) → ℕ → ℕ → (ℕ → ℕ → ℕ) → List Step
to_come o rest x join below = first_drawn o (step_count o) rest (is_taken join below) x
