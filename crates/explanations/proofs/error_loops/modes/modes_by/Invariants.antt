use Rattle.std.proofs.Common.{◌≡◌, map, take}
use Rattle.access_check.specs.Modes.{model_of}
use Rattle.explanations.specs.Modes.{mode_by}
use Rattle.explanations.proofs.error_loops.modes.modes_by.Given as goal

abbrev pub invariant-loop-arg : goal.invariant-loop-arg
invariant-loop-arg l = map model_of l.modes.items ≡ map mode_by (take l.arg-index l.args)
