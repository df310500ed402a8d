-- Lists of steps that are taken one after another.
use Rattle.std.specs.Prelude.{◌≡◌, Bool, List, [], ◌∷◌, Ok}
use Rattle.schedule_steps.specs.Outline.{Outline}
use Rattle.schedule_steps.specs.declared.step.Step.{Step}
use Rattle.schedule_steps.specs.Turns.{marked}
use Rattle.step_judge.specs.Verdicts.{judged}

-- where m is taken, each step of the list is judged well in its turn, and then n is taken
abbrev pub TakenAll : Outline → (Step → Bool) → List Step → (Step → Bool) → Type 0
TakenAll o m [] n = (t : Step) → n t ≡ m t
TakenAll o m (s ∷ l) n = (judged o m s ≡ Ok tt) × ((k : Step → Bool) × ((t : Step) → k t ≡ marked s m t) × TakenAll o k l n)
