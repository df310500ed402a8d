use Rattle.std.proofs.Common.{◌≡◌, ◌++◌, take, map}
use Rattle.op_num.specs.Lines.{text_of_lines}
use Rattle.bound_program.specs.Values.{bound_of}
use Rattle.loop_plan.specs.Values.{item_plan_of}
use Rattle.loop_plan.specs.PlanText.{item_lines}
use Rattle.loop_plan.proofs.writing.put_items.Given as goal

abbrev pub invariant-loop-item : goal.invariant-loop-item
invariant-loop-item l =
    l.out.items
    ≡ l.initial.out.items ++ text_of_lines (item_lines l.bound.mesh 0 (take l.item (bound_of l.bound).trace) (take l.item (map item_plan_of l.plans)))
