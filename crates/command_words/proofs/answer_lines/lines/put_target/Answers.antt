use Rattle.command_words.proofs.answer_lines.TargetLine.{target_said}
use Rattle.command_words.proofs.answer_lines.lines.put_target.Goals as goal

pub returns : goal.returns
returns c =
    target_said c.put_entry.result c.args.out.now.items _ _ c.put_entry.new.out.items c.args.map.now c.args.at c.args.element c.args.place
    c.in_ok-put_numbered.ensures c.in_ok-put_named.ensures c.put_entry.ensures
