use Rattle.std.proofs.Common.{◌-◌, ◌≤◌}
use Rattle.colouring.specs.Masks.{AreFilled}
use Rattle.colouring.proofs.masks.Masks.pass_one.Given as goal

abbrev pub invariant-loop-end : goal.invariant-loop-end
invariant-loop-end l = record {
  from : l.number ≤ l.end;
  filled : AreFilled l.self l.target l.target l.number l.end;
}

abbrev pub decreases-loop-end : goal.decreases-loop-end
decreases-loop-end l = l.last - l.end
