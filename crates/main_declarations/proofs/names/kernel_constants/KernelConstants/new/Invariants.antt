use Rattle.std.proofs.Common.{◌≡◌, ℕ, List, drop}
use Rattle.std.specs.Map.{lookup}
use Rattle.std.specs.Str.{bytes_eq}
use Rattle.main_declarations.specs.SoFar.{first_cell}
use Rattle.main_declarations.proofs.names.kernel_constants.KernelConstants.new.Given as goal

abbrev pub invariant-loop-i : goal.invariant-loop-i
invariant-loop-i l = (x : List ℕ) → lookup (bytes_eq x) l.cells.entries ≡ first_cell (drop l.i l.consts) x
