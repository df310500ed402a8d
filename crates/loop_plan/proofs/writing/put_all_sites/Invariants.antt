use Rattle.std.proofs.Common.{◌≡◌, ◌++◌, take}
use Rattle.std.specs.List.{flat_map}
use Rattle.op_num.specs.Lines.{text_of_lines}
use Rattle.loop_plan.specs.Values.{entries_of}
use Rattle.loop_plan.specs.PlanText.{loop_lines}
use Rattle.loop_plan.proofs.writing.put_all_sites.Given as goal

abbrev pub invariant-loop-place : goal.invariant-loop-place
invariant-loop-place l = l.out.items ≡ l.initial.out.items ++ text_of_lines (flat_map loop_lines (take l.place (entries_of l.sites)))
