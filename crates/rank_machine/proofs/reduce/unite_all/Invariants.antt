use Rattle.std.proofs.Common.{◌≡◌, ◌<◌, ◌≤◌, ℕ, [], get_or}
use Rattle.rank_state.specs.Joins.{unite}
use Rattle.rank_state.proofs.Public.{lists}
use Rattle.rank_machine.proofs.reduce.unite_all.Given as goal

abbrev pub invariant-loop-i : goal.invariant-loop-i
invariant-loop-i l = record {
  done : (j : ℕ) → j < l.i → get_or (lists l.rows) j [] ≡ unite l.scalars (get_or (lists l.fn.rows) j []);
  left : (j : ℕ) → l.i ≤ j → get_or (lists l.rows) j [] ≡ get_or (lists l.fn.rows) j [];
}
