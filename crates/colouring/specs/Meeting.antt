-- Rows of targets that have colours: whether two rows of one colour have a common target.
use Rattle.std.specs.Prelude.{◌≡◌, ◌≢◌, ◌<◌, ◌≤◌, ◌⊎◌, ℕ, List, get_or, length}
use Rattle.colouring.specs.Rows.{In, Conflict, MeetWithin, BlocksMeet, none}

-- the row p has the target t
abbrev pub Has : List ℕ → ℕ → ℕ → ℕ → Type 0
Has ts w p t = (k : ℕ) × In ts w p k × (get_or ts k 0 ≡ t)

-- a mark of another row of the row's colour, from the row `first` on
abbrev pub IsMet : List ℕ → ℕ → ℕ → ℕ → Type 0
IsMet cs first row mark = (mark ≢ none) × (first ≤ mark) × (mark ≢ row) × (get_or cs mark 0 ≡ get_or cs row 0)

-- two rows of one colour with a common target
abbrev pub Meet : List ℕ → ℕ → List ℕ → ℕ → ℕ → Type 0
Meet ts w cs q p = (q ≢ p) × (get_or cs q 0 ≡ get_or cs p 0) × Conflict ts w q p

-- among these rows
abbrev pub SomeMeet : List ℕ → ℕ → List ℕ → List ℕ → Type 0
SomeMeet ts w cs order = (a : ℕ) × (e : ℕ) × (a < length order) × (e < length order) × Meet ts w cs (get_or order a 0) (get_or order e 0)

-- The marks after the first n of these rows: a target that one of them has is marked with the last that has it, and another target
-- isn't marked, or with a row before `first`.
pub record Marked (ts : List ℕ) (w : ℕ) (order : List ℕ) (first n : ℕ) (marks : List ℕ) : Type 0 where
  pub last : (t a : ℕ) → t < length marks → a < n → Has ts w (get_or order a 0) t
      → (e : ℕ) × (a ≤ e) × (e < n) × (get_or marks t 0 ≡ get_or order e 0)
  pub from : (t : ℕ) → t < length marks
      → (get_or marks t 0 ≡ none) ⊎ ((get_or marks t 0 < first)
      ⊎ ((e : ℕ) × (e < n) × (get_or marks t 0 ≡ get_or order e 0) × Has ts w (get_or order e 0) t))

-- two different blocks of one colour have places with a common target
abbrev pub BlocksAlike : List ℕ → ℕ → ℕ → ℕ → List ℕ → Type 0
BlocksAlike ts w places size cs =
    (b : ℕ) × (c : ℕ) × (b < length cs) × (c < length cs) × (b ≢ c)
    × BlocksMeet ts w places size b c × (get_or cs b 0 ≡ get_or cs c 0)

-- two different places below n, of one block and one colour, have a common target
abbrev pub PlacesAlike : List ℕ → ℕ → ℕ → List ℕ → ℕ → Type 0
PlacesAlike ts w size cs n =
    (q : ℕ) × (p : ℕ) × (q < n) × (p < n) × (q ≢ p) × MeetWithin ts w size q p × (get_or cs q 0 ≡ get_or cs p 0)
