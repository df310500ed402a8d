use Rattle.std.proofs.Common.{◌-◌, ◌≤◌}
use Rattle.colouring.specs.Masks.{AreFilled, IsSound, IsKept}
use Rattle.colouring.proofs.masks.Masks.pass_two.Given as goal

abbrev pub invariant-loop-end : goal.invariant-loop-end
invariant-loop-end l = record {
  from : l.number ≤ l.end;
  on : l.end ≤ l.next;
  filled : AreFilled l.fn.self l.a l.b l.number l.next;
  sound : IsSound l.self;
  kept : IsKept l.fn.self l.self;
  few : l.steps ≤ l.end;
}

abbrev pub decreases-loop-end : goal.decreases-loop-end
decreases-loop-end l = 4294967296 - l.end
