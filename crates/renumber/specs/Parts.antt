-- Rows as parts of one list.
use Rattle.std.specs.Prelude.{◌≡◌, ℕ, ◌+◌, ◌-◌, ◌<◌, ◌≤◌, List, [], ◌∷◌, length, map, take, drop, slice_index}

-- the rows so far, and how many numbers each has room for
pub record FillingValue : Type 0 where
  pub rows : List (List ℕ)
  pub room : List ℕ

-- no row has a number yet
abbrev pub empty_rows : List ℕ → FillingValue
empty_rows lengths = record { rows = map (λ (n : ℕ). []) lengths; room = lengths }

-- the items from each start up to its end
abbrev pub parts : List ℕ → List ℕ → List ℕ → List (List ℕ)
parts [] ends items = []
parts (a ∷ starts) [] items = []
parts (a ∷ starts) (b ∷ ends) items = take (b - a) (drop a items) ∷ parts starts ends items

-- how far each end is from its start
abbrev pub rooms : List ℕ → List ℕ → List ℕ
rooms [] ends = []
rooms (a ∷ starts) [] = []
rooms (a ∷ starts) (b ∷ ends) = (b - a) ∷ rooms starts ends

-- places of a list of this size that don't fall; each row ends where the next starts
pub record AreStarts (starts : List ℕ) (size : ℕ) : Type 0 where
  pub some : 0 < length starts
  pub rise : (i j : ℕ) → i ≤ j → j < length starts → slice_index starts i ≤ slice_index starts j
  pub within : (i : ℕ) → i < length starts → slice_index starts i ≤ size

-- each row ends before the next starts
pub record AreEnds (starts ends : List ℕ) (size : ℕ) : Type 0 where
  pub ordered : AreStarts starts size
  pub count : length ends + 1 ≡ length starts
  pub from : (k : ℕ) → k < length ends → slice_index starts k ≤ slice_index ends k
  pub upto : (k : ℕ) → k < length ends → slice_index ends k ≤ slice_index starts (k + 1)
