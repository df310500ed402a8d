use Rattle.std.proofs.Common.{◌<◌, ℕ, Contains}
use Rattle.job_inputs.specs.Known.{use_of}
use Rattle.job_inputs.proofs.known_uses.are_known.Given as goal

abbrev pub invariant-loop-param : goal.invariant-loop-param
invariant-loop-param l = (a : ℕ) → a < l.param → Contains l.known.keys (use_of l.kernel l.modes a)
