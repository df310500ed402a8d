use Rattle.command_words.proofs.answer_lines.lines.put_said.Goals as goal

pub returns-in-BadBinding : goal.returns-in-BadBinding
returns-in-BadBinding c = rw c.in-BadBinding.is c.put_numbered-in-BadBinding.ensures
