use Rattle.std.specs.Fmt.{decimal}
use Rattle.command_words.proofs.answer_lines.StepLines.{three}
use Rattle.command_words.proofs.answer_lines.lines.put_three.Goals as goal

pub returns : goal.returns
returns c =
    three c.put_number-3.result c.args.out.now.items c.put_named.new.out.items c.put_number.new.out.items c.put_number-2.new.out.items c.put_number-3.new.out.items
    c.args.word.now (decimal c.args.a) (decimal c.args.b) (decimal c.args.c) c.in_ok-put_named.ensures c.in_ok-put_number.ensures c.in_ok-put_number-2.ensures
    c.put_number-3.ensures
