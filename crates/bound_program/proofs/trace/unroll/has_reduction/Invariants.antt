use Rattle.std.proofs.Common.{◌≡◌, drop}
use Rattle.bound_program.specs.Classes.{reduces}
use Rattle.bound_program.proofs.trace.unroll.has_reduction.Given as goal

abbrev pub invariant-loop-arg : goal.invariant-loop-arg
invariant-loop-arg l = reduces (drop l.arg-index l.args) ≡ reduces l.args
