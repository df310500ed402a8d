use Rattle.std.proofs.Common.{◌≡◌, ◌++◌}
use Rattle.op_num.specs.Lines.{text_of_lines}
use Rattle.loop_plan.specs.PlanText.{all_halo_lines}
use Rattle.loop_plan.proofs.writing.put_all_halos.Given as goal

abbrev pub invariant-loop-set : goal.invariant-loop-set
invariant-loop-set l = l.out.items ≡ l.initial.out.items ++ text_of_lines (all_halo_lines l.mesh l.ranks l.set)
