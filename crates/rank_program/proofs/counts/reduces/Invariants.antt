use Rattle.std.proofs.Common.{◌≡◌, drop}
use Rattle.rank_program.specs.Batches.{reduces}
use Rattle.rank_program.proofs.counts.reduces.Given as goal

abbrev pub invariant-loop-scalar : goal.invariant-loop-scalar
invariant-loop-scalar l = reduces (drop l.scalar-index l.scalars) ≡ reduces l.scalars
