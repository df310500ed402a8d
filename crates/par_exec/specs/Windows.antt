-- The windows of a buffer.
use Rattle.std.specs.Prelude.{ℕ, zero, suc, ℤ, ◌≡◌, ◌+◌, ◌*◌, ◌<◌, List, ◌++◌, take, drop}

-- window i of a buffer that is cut into windows of one stride
abbrev pub window : ℕ → ℕ → List ℤ → List ℤ
window stride i cells = take stride (drop (i * stride) cells)

-- each of the n windows, numbered from `first` on, became what a function makes of its number and its old cells
pub record EachWindow (f : ℕ → List ℤ → List ℤ) (stride first n : ℕ) (old new : List ℤ) : Type 0 where
  pub became : (i : ℕ) → i < n → window stride i new ≡ f (first + i) (window stride i old)

-- the buffer whose first n windows, numbered from i on, are replaced by what a function makes of each one's number and cells
abbrev pub replaced : (ℕ → List ℤ → List ℤ) → ℕ → ℕ → ℕ → List ℤ → List ℤ
replaced f stride i zero s = s
replaced f stride i (suc n) s = f i (take stride s) ++ replaced f stride (suc i) n (drop stride s)
