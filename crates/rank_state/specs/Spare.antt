-- Spare capacity of the ranks' memories: what a memory can take in behind its cells without being moved.
use Rattle.std.specs.Prelude.{◌≤◌, ◌+◌, ℕ, ℤ, List, Vec, All, vec_len, vec_capacity}
use Rattle.std.specs.declared.alloc.Global.{Global}

-- there is capacity for so many more cells
abbrev pub HasSpare : ℕ → Vec ℤ Global → Type 0
HasSpare n v = vec_len v + n ≤ vec_capacity v

-- memories that replace others have as much spare capacity as those
abbrev pub KeepsSpare : List (Vec ℤ Global) → List (Vec ℤ Global) → Type 0
KeepsSpare old new = (n : ℕ) → All (HasSpare n) old → All (HasSpare n) new
