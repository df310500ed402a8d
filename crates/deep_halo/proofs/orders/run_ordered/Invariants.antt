use Rattle.std.proofs.Common.{None}
use Rattle.schedule_model.specs.Cells.{Store}
use Rattle.schedule_model.specs.Sequential.{loop}
use Rattle.run_model.specs.Programs.{program_of}
use Rattle.deep_halo.specs.Programs.{program_of_run, owners_of_run}
use Rattle.deep_halo.specs.Orders.{OwnersStand, OthersStay, LoopEnds}
use Rattle.deep_halo.proofs.orders.run_ordered.Given as goal

abbrev pub invariant-loop-element : goal.invariant-loop-element
invariant-loop-element l =
    ((s : Store) → OwnersStand (program_of_run l.program) (owners_of_run l.program) l.initial.memory s
    → LoopEnds (program_of_run l.program) (owners_of_run l.program) l.item l.memory None (loop (program_of (program_of_run l.program)) l.item l.element s))
    × OthersStay (program_of_run l.program) (owners_of_run l.program) l.initial.memory l.memory
