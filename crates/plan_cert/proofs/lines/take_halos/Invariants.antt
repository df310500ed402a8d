use Rattle.std.proofs.Common.{ℕ, []}
use Rattle.bound_program.specs.Values.{bound_of}
use Rattle.plan_cert.specs.Awaited.{each_below, awaited_set}
use Rattle.plan_cert.specs.Judged.{FitsAmong}
use Rattle.plan_cert.proofs.lines.take_halos.Given as goal

abbrev pub invariant-loop-set : goal.invariant-loop-set
invariant-loop-set l = (size : ℕ) → FitsAmong (bound_of l.bound) l.ranks size (each_below (awaited_set (bound_of l.bound) l.ranks) l.set) l.fn.lines l.lines []
