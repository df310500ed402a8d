-- Acceptance by turns, which is what a checker does.
use Rattle.std.specs.Prelude.{◌≡◌, Bool, true, false, ◌||◌, List, [], ◌∷◌}
use Rattle.schedule_steps.specs.Outline.{Outline}
use Rattle.schedule_steps.specs.declared.step.Step.{Step}
use Rattle.schedule_steps.specs.Steps.{IsStep, Earlier, same}

-- the step is of the plan, was not taken, and its earlier steps were
pub record Takes (o : Outline) (m : Step → Bool) (s : Step) : Type 0 where
  pub planned : IsStep o s
  pub untaken : m s ≡ false
  pub after : (t : Step) → IsStep o t → Earlier o t s → m t ≡ true

-- the steps taken so far, with s
abbrev pub marked : Step → (Step → Bool) → Step → Bool
marked s m t = same t s || m t

-- each step of the list may be taken in its turn, and none is left at the end
abbrev pub Turns : Outline → (Step → Bool) → List Step → Type 0
Turns o m [] = (s : Step) → IsStep o s → m s ≡ true
Turns o m (s ∷ l) = Takes o m s × Turns o (marked s m) l

-- no step is taken
abbrev pub nothing_taken : Step → Bool
nothing_taken t = false
