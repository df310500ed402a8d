-- Modes of arguments as the definitions of the access rules have them.
use Rattle.std.specs.Prelude.{ℕ, ◌≤◌, List, length, map}
use Rattle.op_num.specs.Access.{access_of}
use Rattle.kernel_model.specs.Obeys as model
use Rattle.kernel_model.specs.Obeys.{mode_at}
use Rattle.access_check.specs.declared.modes.Mode.{Mode}

-- a mode
abbrev pub model_of : Mode → model.Mode
model_of m = record { access = access_of m.access; dim = m.dim }

-- at most 16 arguments, each of at most 64 components
abbrev pub AreSmall : List Mode → Type 0
AreSmall modes = (length modes ≤ 16) × ((a : ℕ) → (mode_at (map model_of modes) a).dim ≤ 64)
