use Rattle.std.proofs.Common.{◌≡◌, map}
use Rattle.rank_state.specs.Windows.{index}
use Rattle.rank_layout.specs.Made.{row_of}
use Rattle.rank_layout.proofs.LoopRows.{Rows}
use Rattle.rank_layout.proofs.scalar_tables.loop_indices.Given as goal

abbrev pub invariant-loop-list : goal.invariant-loop-list
invariant-loop-list l = Rows (λ s xs. xs ≡ map index (row_of l.scalars s)) l.indices.items l.list-index
