use Rattle.std.proofs.Common.{◌≡◌, drop}
use Rattle.std.specs.List.{list_any}
use Rattle.loop_plan.specs.Needs.{arg_needs}
use Rattle.loop_plan.proofs.needs.needs_dat.Given as goal

abbrev pub invariant-loop-arg : goal.invariant-loop-arg
invariant-loop-arg l = list_any (arg_needs l.scattering l.dat) (drop l.arg-index l.args) ≡ list_any (arg_needs l.scattering l.dat) l.args
