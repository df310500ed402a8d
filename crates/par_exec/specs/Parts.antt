-- The parts of a list.
use Rattle.std.specs.Prelude.{ℕ, suc, List, [], ◌∷◌}

-- what holds of each part with its number, these being numbered from i on
abbrev pub TakesEach : {X : Type 0} → (ℕ → X → Type 0) → ℕ → List X → Type 0
TakesEach P i [] = Unit {0}
TakesEach P i (x ∷ xs) = P i x × TakesEach P (suc i) xs

-- what holds of each part with its number, before and after; there are as many after as before
abbrev pub MadeEach : {X : Type 0} → (ℕ → X → X → Type 0) → ℕ → List X → List X → Type 0
MadeEach Q i [] [] = Unit {0}
MadeEach Q i [] (y ∷ ys) = ⊥
MadeEach Q i (x ∷ xs) [] = ⊥
MadeEach Q i (x ∷ xs) (y ∷ ys) = Q i x y × MadeEach Q (suc i) xs ys
