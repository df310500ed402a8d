use Rattle.std.proofs.Common.{◌≡◌, map, drop}
use Rattle.bound_program.specs.Values.{var_of}
use Rattle.bound_program.specs.Unrolling.{told_of}
use Rattle.loop_bind.specs.Weights.{with_told}
use Rattle.loop_bind.proofs.told.with_told.Given as goal

abbrev pub invariant-loop-told : goal.invariant-loop-told
invariant-loop-told l =
    with_told (map told_of (drop l.told-index l.values)) (map var_of l.vars.items) ≡ with_told (map told_of l.values) (map var_of l.initial.vars.items)
