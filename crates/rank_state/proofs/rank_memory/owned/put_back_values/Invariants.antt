use Rattle.std.proofs.Common.{◌≡◌, drop, length}
use Rattle.rank_state.specs.Ordered.{put_values}
use Rattle.rank_state.specs.Indices.{InLength}
use Rattle.rank_state.proofs.rank_memory.owned.put_back_values.Given as goal

abbrev pub invariant-loop-i : goal.invariant-loop-i
invariant-loop-i l = record {
  inside : InLength (length l.variables) (drop l.i l.indices);
  left : put_values (drop l.i l.indices) (drop l.i l.values) l.variables ≡ put_values l.indices l.values l.fn.variables;
}
