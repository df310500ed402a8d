use Rattle.std.proofs.Common.{◌≤◌, ◌+◌, ◌*◌, ℕ, length}
use Rattle.bound_program.specs.Values.{bound_of}
use Rattle.rank_layout.specs.Numbered.{AreNumbers}
use Rattle.rank_layout.specs.Placed.{DatsPut, AllPut}
use Rattle.rank_layout.proofs.windows.put_variables.Given as goal

abbrev pub invariant-loop-i : goal.invariant-loop-i
invariant-loop-i l =
    ((e : ℕ) → AreNumbers (bound_of l.bound) e l.args l.numbers → DatsPut (bound_of l.bound) e l.args (length l.args) l.fn.places l.from
    → AllPut (bound_of l.bound) e l.args l.i l.places l.next) × (l.next ≤ 1024 + 64 * l.i)
