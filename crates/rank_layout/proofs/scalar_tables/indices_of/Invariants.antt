use Rattle.std.proofs.Common.{◌≡◌, map, take}
use Rattle.rank_state.specs.Windows.{index}
use Rattle.rank_layout.proofs.scalar_tables.indices_of.Given as goal

abbrev pub invariant-loop-scalar : goal.invariant-loop-scalar
invariant-loop-scalar l = l.indices.items ≡ map index (take l.scalar-index l.scalars)
