-- The counters: for each stage how many of its tasks aren't done.
use Rattle.std.specs.Prelude.{◌≡◌, ◌<◌, ◌≤◌, ◌+◌, ◌==◌, ◌&&◌, ◌^◌, ℕ, Bool, not, cond, List, [], ◌∷◌, get_or, length}

-- how many tasks of the stage aren't done
abbrev pub open_in : List ℕ → List Bool → ℕ → ℕ
open_in [] ds c = 0
open_in (k ∷ ks) [] c = 0
open_in (k ∷ ks) (d ∷ ds) c = cond ((k == c) && not d) 1 0 + open_in ks ds c

-- the counters say how many tasks of each stage aren't done, and the stages before `at` have none left
pub record Kept (of : List ℕ) (done : List Bool) (left : List ℕ) (at : ℕ) : Type 0 where
  pub size : length done ≡ length of
  pub fits : length of < 2 ^ 32
  pub stages : (t : ℕ) → t < length of → get_or of t 0 < length left
  pub counts : (c : ℕ) → c < length left → get_or left c 0 ≡ open_in of done c
  pub within : at ≤ length left
  pub passed : (c : ℕ) → c < at → get_or left c 0 ≡ 0

-- how many tasks the stage has
abbrev pub count_of : List ℕ → ℕ → ℕ
count_of [] c = 0
count_of (k ∷ ks) c = cond (k == c) 1 0 + count_of ks c
