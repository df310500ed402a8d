use Rattle.std.proofs.Common.{◌≡◌, ◌++◌, take}
use Rattle.op_num.specs.Lines.{text_of_lines}
use Rattle.loop_plan.specs.PlanText.{halo_lines}
use Rattle.loop_plan.proofs.writing.put_halos.Given as goal

abbrev pub invariant-loop-rank : goal.invariant-loop-rank
invariant-loop-rank l = l.out.items ≡ l.initial.out.items ++ text_of_lines (halo_lines l.mesh l.set 0 (take l.rank l.ranks))
