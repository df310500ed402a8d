use Rattle.std.proofs.Common.{codes}
use Rattle.std.specs.Fmt.{decimal}
use Rattle.command_words.specs.Lines.{step_name}
use Rattle.command_words.proofs.answer_lines.StepLines.{left}
use Rattle.command_words.proofs.answer_lines.lines.put_left.Goals as goal

pub returns : goal.returns
returns c =
    left c.put_missing.result c.args.out.now.items c.put_counted.new.out.items c.put_missing.new.out.items (codes "schedule step 4 line")
    (decimal c.args.line) (codes " needs") (step_name c.args.missing) c.in_ok-put_counted.ensures c.put_missing.ensures
