use Rattle.std.proofs.Common.{◌≡◌, ◌<◌, ℕ, [], drop, length, get_or}
use Rattle.rank_state.specs.Windows.{Reads, Merges}
use Rattle.rank_state.specs.Joins.{reduce_all}
use Rattle.rank_state.proofs.Public.{lists}
use Rattle.rank_machine.proofs.reduce.reduce_variables.Given as goal

abbrev pub invariant-loop-scalar : goal.invariant-loop-scalar
invariant-loop-scalar l = record {
  inside : Reads (length l.variables) (drop l.scalar-index l.scalars);
  rows : (i : ℕ) → i < length l.rows → Merges (length (get_or (lists l.rows) i [])) (drop l.scalar-index l.scalars);
  left : reduce_all (lists l.rows) (length l.rows) (drop l.scalar-index l.scalars) l.variables ≡ reduce_all (lists l.rows) (length l.rows) l.scalars l.fn.variables;
}
