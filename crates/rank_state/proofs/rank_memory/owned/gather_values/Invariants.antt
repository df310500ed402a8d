use Rattle.std.proofs.Common.{◌≡◌, ◌+◌, ◌++◌, take, drop, length}
use Rattle.rank_state.specs.Indices.{InLength, values_at}
use Rattle.rank_state.proofs.rank_memory.owned.gather_values.Given as goal

abbrev pub invariant-loop-i : goal.invariant-loop-i
invariant-loop-i l = record {
  inside : InLength (length l.variables) (drop l.i l.indices);
  done : take (l.from + l.i) l.frame ++ values_at l.variables (drop l.i l.indices) ≡ take l.from l.fn.frame ++ values_at l.variables l.indices;
}
