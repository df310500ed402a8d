use Rattle.std.proofs.Common.{◌<◌, ℕ, get_or}
use Rattle.colouring.specs.declared.types.IncArg.{IncArg}
use Rattle.colouring.specs.Mapped.{IsColumn}
use Rattle.colouring.proofs.mapped.are_columns.Given as goal

abbrev pub invariant-loop-a : goal.invariant-loop-a
invariant-loop-a l = (k : ℕ) (x : IncArg) → k < l.a → IsColumn l.map (get_or l.starts k 0) k (get_or l.args k x)
