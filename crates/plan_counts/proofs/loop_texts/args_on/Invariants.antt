use Rattle.std.proofs.Common.{◌≡◌, take}
use Rattle.std.specs.Prelude.{filter}
use Rattle.plan_counts.specs.Parts.{is_on}
use Rattle.plan_counts.proofs.loop_texts.args_on.Given as goal

-- those of the arguments so far
abbrev pub invariant-loop-arg : goal.invariant-loop-arg
invariant-loop-arg l = l.found.items ≡ filter (is_on l.dat) (take l.arg-index l.args)
