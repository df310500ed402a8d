use Rattle.std.proofs.Common.{◌-◌, ◌*◌}
use Rattle.colouring.specs.Masks.{Cover, IsSound, IsKept}
use Rattle.colouring.proofs.masks.Masks.free_colour.Given as goal

abbrev pub invariant-loop-bit : goal.invariant-loop-bit
invariant-loop-bit l = record {
  covered : Cover l.fn.self l.targets l.start l.end (32 * l.number);
  sound : IsSound l.self;
  kept : IsKept l.fn.self l.self;
}

abbrev pub decreases-loop-bit : goal.decreases-loop-bit
decreases-loop-bit l = l.most - 32 * l.number
