use Rattle.std.proofs.Common.{◌≡◌, false, map, take}
use Rattle.std.specs.List.{list_any}
use Rattle.bound_program.specs.Values.{item_of}
use Rattle.loop_plan.specs.Places.{runs_loop}
use Rattle.cell_numbers.proofs.blocks.runs_free.Given as goal

abbrev pub invariant-loop-item : goal.invariant-loop-item
invariant-loop-item l = list_any (runs_loop l.site) (map item_of (take l.item-index l.bound.trace.items)) ≡ false
