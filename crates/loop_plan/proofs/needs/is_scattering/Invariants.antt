use Rattle.std.proofs.Common.{◌≡◌, drop}
use Rattle.bound_program.specs.Classes.{scatters}
use Rattle.loop_plan.proofs.needs.is_scattering.Given as goal

abbrev pub invariant-loop-arg : goal.invariant-loop-arg
invariant-loop-arg l = scatters (drop l.arg-index l.args) ≡ scatters l.args
