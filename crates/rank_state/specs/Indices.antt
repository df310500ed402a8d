-- Values of a list at some indices.
use Rattle.std.specs.Prelude.{◌<◌, ℕ, ℤ, pos, List, [], ◌∷◌, get_or}

-- the values at the indices, in their order
abbrev pub values_at : List ℤ → List ℕ → List ℤ
values_at variables [] = []
values_at variables (i ∷ is) = get_or variables i (pos 0) ∷ values_at variables is

-- each index is below n
abbrev pub InLength : ℕ → List ℕ → Type 0
InLength n [] = Unit {0}
InLength n (i ∷ is) = (i < n) × InLength n is
