use Rattle.std.proofs.Common.{◌≡◌, map, take}
use Rattle.access_check.specs.Modes.{model_of}
use Rattle.bound_program.specs.Values.{bound_of}
use Rattle.run_model.specs.Arguments as run
use Rattle.job_inputs.proofs.accesses.modes_of.Given as goal

abbrev pub invariant-loop-arg : goal.invariant-loop-arg
invariant-loop-arg l = map model_of l.modes.items ≡ map (run.mode_of (bound_of l.bound)) (take l.arg-index l.site.args.items)
