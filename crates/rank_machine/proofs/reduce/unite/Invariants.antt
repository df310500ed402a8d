use Rattle.std.proofs.Common.{◌≡◌, drop, length}
use Rattle.rank_state.specs.Windows.{Merges}
use Rattle.rank_state.specs.Joins.{unite}
use Rattle.rank_machine.proofs.reduce.unite.Given as goal

abbrev pub invariant-loop-scalar : goal.invariant-loop-scalar
invariant-loop-scalar l = record {
  inside : Merges (length l.partials) (drop l.scalar-index l.scalars);
  left : unite (drop l.scalar-index l.scalars) l.partials ≡ unite l.scalars l.fn.partials;
}
