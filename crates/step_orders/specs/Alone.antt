-- Elements that begin and end one after another.
use Rattle.std.specs.Prelude.{ℕ, List, [], ◌∷◌}
use Rattle.schedule_steps.specs.declared.step.Step.{Step}
use Rattle.schedule_steps.specs.declared.step.Step.TheVariants.{Begin, End}

-- item, rank, places: each element's begin, and its end behind it
abbrev pub alone : ℕ → ℕ → List ℕ → List Step
alone k r [] = []
alone k r (x ∷ xs) = Begin k r x ∷ End k r x ∷ alone k r xs
