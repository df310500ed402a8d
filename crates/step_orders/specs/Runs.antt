-- Lists that are cut into runs.
use Rattle.std.specs.Prelude.{◌≤◌, ◌-◌, ℕ, zero, suc, List, [], ◌∷◌, length, take, drop, get_or}

-- the elements from the place `from` on, cut at each of these places
abbrev pub cut : ℕ → List ℕ → List ℕ → List (List ℕ)
cut from xs [] = []
cut from xs (e ∷ es) = take (e - from) (drop from xs) ∷ cut e xs es

-- where a run starts
abbrev pub start_of : ℕ → List ℕ → ℕ → ℕ
start_of from es zero = from
start_of from es (suc i) = get_or es i 0

-- the places to cut at, from `from` on, don't go down and are within the list
abbrev pub AreEnds : ℕ → List ℕ → List ℕ → Type 0
AreEnds from xs [] = Unit {0}
AreEnds from xs (e ∷ es) = (from ≤ e) × (e ≤ length xs) × AreEnds e xs es

-- each element is a run of its own
abbrev pub each_alone : List ℕ → List (List ℕ)
each_alone [] = []
each_alone (x ∷ xs) = (x ∷ []) ∷ each_alone xs
