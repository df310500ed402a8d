use Rattle.std.proofs.Common.{◌≡◌, take}
use Rattle.loop_plan.specs.Places.{reducing}
use Rattle.loop_plan.proofs.sites.reducing_args.Given as goal

abbrev pub invariant-loop-arg : goal.invariant-loop-arg
invariant-loop-arg l = l.found.items ≡ reducing (take l.arg-index l.args)
