use Rattle.bound_program.specs.Values.{bound_of}
use Rattle.rank_layout.proofs.ConstantNumbers.{SoFar}
use Rattle.rank_layout.proofs.constant_table.put_all.Given as goal

abbrev pub invariant-loop-v : goal.invariant-loop-v
invariant-loop-v l = SoFar (bound_of l.fn.bound) l.table l.v
