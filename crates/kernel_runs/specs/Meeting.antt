-- Rows that meet in no element.
use Rattle.std.specs.Prelude.{◌≢◌, ℕ, ◌<◌, List, [], length, get_or, slice_index}

-- the numbers of the first rows differ
abbrev pub AreDifferent : (rows : ℕ) → List ℕ → Type 0
AreDifferent rows batch = (i l : ℕ) → i < rows → l < rows → i ≢ l → slice_index batch i ≢ slice_index batch l

-- the numbers of the two ways of a pair
abbrev pub pair_at : List (ℕ × ℕ) → ℕ → ℕ × ℕ
pair_at pairs i = get_or pairs i (0, 0)

-- none of the first rows has one element by both ways of a pair
abbrev pub NeverInPairs : (rows : ℕ) → List (ℕ × ℕ) → (numbers : List (List ℕ)) → Type 0
NeverInPairs rows pairs numbers =
    (i l : ℕ)
    → i < length pairs → l < rows
    → slice_index (get_or numbers (pair_at pairs i).0 []) l ≢ slice_index (get_or numbers (pair_at pairs i).1 []) l
