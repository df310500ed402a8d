use Rattle.std.proofs.Common.{◌≡◌, ◌+◌, ◌++◌, take, drop, length}
use Rattle.rank_state.specs.Windows.{firsts, Reads}
use Rattle.rank_state.proofs.rank_memory.scalars.fill.Given as goal

abbrev pub invariant-loop-i : goal.invariant-loop-i
invariant-loop-i l = record {
  inside : Reads (length l.variables) (drop l.i l.scalars);
  done : take (l.from + l.i) l.frame ++ firsts l.variables (drop l.i l.scalars) ≡ take l.from l.fn.frame ++ firsts l.variables l.scalars;
}
