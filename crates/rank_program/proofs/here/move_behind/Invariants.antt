use Rattle.std.proofs.Common.{◌≡◌, ◌<◌, ◌++◌, map, take, drop, length}
use Rattle.rank_program.specs.Here.{moved}
use Rattle.rank_program.proofs.here.move_behind.Given as goal

abbrev pub invariant-loop-i : goal.invariant-loop-i
invariant-loop-i l = l.windows ≡ map (moved l.width l.others) (take l.i l.fn.windows) ++ drop l.i l.fn.windows
