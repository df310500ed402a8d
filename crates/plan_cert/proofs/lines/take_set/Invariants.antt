use Rattle.std.proofs.Common.{ℕ, [], ◌∷◌}
use Rattle.bound_program.specs.Values.{bound_of}
use Rattle.plan_cert.specs.Awaited.{each_below, awaited_halo}
use Rattle.plan_cert.specs.Judged.{FitsAmong}
use Rattle.plan_cert.proofs.lines.take_set.Given as goal

abbrev pub invariant-loop-rank : goal.invariant-loop-rank
invariant-loop-rank l = (size : ℕ) → FitsAmong (bound_of l.bound) l.ranks size (each_below (λ r. awaited_halo (bound_of l.bound) l.ranks l.set r ∷ []) l.rank) l.fn.lines l.lines []
