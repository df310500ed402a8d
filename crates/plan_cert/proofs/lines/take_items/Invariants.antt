use Rattle.std.proofs.Common.{ℕ, [], ◌∷◌}
use Rattle.bound_program.specs.Values.{bound_of}
use Rattle.plan_cert.specs.Awaited.{each_below, awaited_item}
use Rattle.plan_cert.specs.Judged.{FitsAmong}
use Rattle.plan_cert.proofs.lines.take_items.Given as goal

abbrev pub invariant-loop-item : goal.invariant-loop-item
invariant-loop-item l = (size : ℕ) → FitsAmong (bound_of l.bound) l.ranks size (each_below (λ k. awaited_item (bound_of l.bound) l.ranks k ∷ []) l.item) l.fn.lines l.lines []
