use Rattle.std.proofs.Common.{◌≤◌, ◌*◌, ℕ}
use Rattle.bound_program.specs.Values.{bound_of}
use Rattle.rank_layout.specs.Numbered.{AreNumbers}
use Rattle.rank_layout.specs.Placed.{DatsPut}
use Rattle.rank_layout.proofs.windows.put_dats.Given as goal

abbrev pub invariant-loop-i : goal.invariant-loop-i
invariant-loop-i l =
    ((e : ℕ) → AreNumbers (bound_of l.bound) e l.args l.numbers → DatsPut (bound_of l.bound) e l.args l.i l.places l.next) × (l.next ≤ 64 * l.i)
