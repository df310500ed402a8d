-- The values of the constants that kernels read.
use Rattle.std.specs.Prelude.{◌≡◌, ◌<◌, ◌+◌, ℕ, ℤ, pos, List, Some, map, get_or}
use Rattle.schedule_model.specs.Cells.{VarCell}
use Rattle.bound_program.specs.Values.{BoundValue}
use Rattle.bound_program.specs.Fits.{var_at}
use Rattle.run_model.specs.Arguments.{var_width}
use Rattle.run_model.specs.Kernels.{constants}

-- those of the first n variables are in the list
abbrev pub AreRead : BoundValue → (VarCell → ℤ) → ℕ → List ℤ → Type 0
AreRead b values n list =
    (v first i : ℕ)
    → v < n
    → (var_at b v).constant ≡ Some first
    → i < var_width b v
    → get_or list (first + i) (pos 0) ≡ values (record { variable = v; component = i })

-- those of all constants, by their numbers
abbrev pub constants_in : BoundValue → (VarCell → ℤ) → List ℤ
constants_in b values = map values (constants b)
