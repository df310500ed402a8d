use Rattle.std.proofs.Common.{◌≡◌, drop}
use Rattle.loop_bind.specs.Arguments.{is_twice}
use Rattle.loop_bind.proofs.main_text.arguments.is_twice.Given as goal

abbrev pub invariant-loop-e : goal.invariant-loop-e
invariant-loop-e l = is_twice (drop l.e-index l.before) l.var l.access ≡ is_twice l.before l.var l.access
