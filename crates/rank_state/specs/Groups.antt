-- Groups: elements of one item that begin one after another on one rank.
use Rattle.std.specs.Prelude.{◌≡◌, ℕ, Bool, false, ◌||◌, ◌==◌, List, [], ◌∷◌}
use Rattle.schedule_steps.specs.declared.step.Step.{Step}
use Rattle.schedule_steps.specs.declared.step.Step.TheVariants.{Begin}
use Rattle.schedule_steps.specs.Outline.{Outline}
use Rattle.schedule_steps.specs.Steps.{IsStep}
use Rattle.rank_state.specs.Frames.{Pane, Shut, pane_at}

-- the begins of places of a rank in an item, one after another
abbrev pub begins : ℕ → ℕ → List ℕ → List Step
begins k r [] = []
begins k r (x ∷ xs) = Begin k r x ∷ begins k r xs

-- whether a place is one of these
abbrev pub is_in : ℕ → List ℕ → Bool
is_in y [] = false
is_in y (x ∷ xs) = (y == x) || is_in y xs

-- no place stands twice
abbrev pub Distinct : List ℕ → Type 0
Distinct [] = Unit {0}
Distinct (x ∷ xs) = (is_in x xs ≡ false) × Distinct xs

-- each begin is a step of the plan
abbrev pub Planned : Outline → ℕ → ℕ → List ℕ → Type 0
Planned o k r [] = Unit {0}
Planned o k r (x ∷ xs) = IsStep o (Begin k r x) × Planned o k r xs

-- nothing is open at the places
abbrev pub AllShut : List (List Pane) → ℕ → List ℕ → Type 0
AllShut ps r [] = Unit {0}
AllShut ps r (x ∷ xs) = (pane_at ps r x ≡ Shut) × AllShut ps r xs
