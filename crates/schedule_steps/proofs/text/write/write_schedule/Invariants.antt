use Rattle.std.proofs.Common.{◌≡◌, ◌++◌, map, drop}
use Rattle.op_num.specs.Lines.{line_of, text_of_lines}
use Rattle.schedule_steps.specs.Written.{tokens_of, header, AllFit}
use Rattle.schedule_steps.proofs.text.write.write_schedule.Given as goal

abbrev pub invariant-loop-step : goal.invariant-loop-step
invariant-loop-step l = record {
  text : l.out.items ++ text_of_lines (map tokens_of (drop l.step-index l.steps)) ≡ line_of header ++ text_of_lines (map tokens_of l.steps);
  numbers : AllFit (drop l.step-index l.steps) → AllFit l.steps;
}
