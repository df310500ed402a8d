use Rattle.std.proofs.Common.{◌≡◌, ◌<◌, ◌≤◌, ℕ, get_or, vec_len, vec_capacity}
use Rattle.rank_state.proofs.rank_memory.table.all_slots.Given as goal

abbrev pub invariant-loop-i : goal.invariant-loop-i
invariant-loop-i l = record {
  len : vec_len l.all ≡ l.i;
  room : l.count ≤ vec_capacity l.all;
  each : (k : ℕ) → k < l.i → get_or l.all.items k 0 ≡ k;
}
