use Rattle.std.proofs.Common.{◌≡◌, ◌++◌, take}
use Rattle.op_num.specs.Lines.{text_of_lines}
use Rattle.loop_plan.specs.PlanText.{site_lines}
use Rattle.loop_plan.proofs.writing.put_sites.Given as goal

abbrev pub invariant-loop-rank : goal.invariant-loop-rank
invariant-loop-rank l = l.out.items ≡ l.initial.out.items ++ text_of_lines (site_lines l.site 0 (take l.rank l.places) (take l.rank l.colours))
