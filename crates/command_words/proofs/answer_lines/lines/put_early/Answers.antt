use Rattle.std.proofs.Common.{codes}
use Rattle.std.specs.Fmt.{decimal}
use Rattle.command_words.specs.Lines.{step_name}
use Rattle.command_words.proofs.answer_lines.StepLines.{early}
use Rattle.command_words.proofs.answer_lines.lines.put_early.Goals as goal

pub returns : goal.returns
returns c =
    early c.put_missing.result c.args.out.now.items c.put_counted.new.out.items c.put_step.new.out.items c.put_missing.new.out.items (codes "schedule step 3 line")
    (decimal c.args.line) (step_name c.args.step) (codes " needs") (step_name c.args.missing) c.in_ok-put_counted.ensures c.in_ok-put_step.ensures c.put_missing.ensures
