use Rattle.std.proofs.Common.{◌≡◌, true}
use Rattle.kernel_model.specs.Walk.{all_below}
use Rattle.access_check.specs.States.{has_component}
use Rattle.access_check.proofs.checking.is_whole.Given as goal

abbrev pub invariant-loop-i : goal.invariant-loop-i
invariant-loop-i l = all_below (has_component l.covered l.arg) l.i ≡ true
