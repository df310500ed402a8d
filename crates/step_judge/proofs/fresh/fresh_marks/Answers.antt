use Rattle.step_judge.proofs.FreshMarks.{laid}
use Rattle.step_judge.proofs.fresh.fresh_marks.Goals as goal

pub new-requires : goal.new-requires
new-requires c = laid c.requires.0 c.args.ranks c.args.items.items c.requires.1
