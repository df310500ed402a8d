use Rattle.step_judge.specs.Wanted.{wanted}
use Rattle.std.proofs.Common.{◌∙◌, sym}
use Rattle.step_judge.proofs.Firsts.{free_item, join_item}
use Rattle.step_judge.proofs.search.first_of_item.Goals as goal

pub returns-then-is_free : goal.returns-then-is_free
returns-then-is_free c o m = free_item c.args.marks.now o m c.args.item c.requires.item (wanted c.args.marks.now c.args.later) c.first_of_free.result
    (sym c.is_free.ensures ∙ c.if-is_free.true) (c.first_of_free.ensures o m)

pub returns-else-is_free : goal.returns-else-is_free
returns-else-is_free c o m = join_item c.args.marks.now o m c.args.item c.requires.item (wanted c.args.marks.now c.args.later) c.first_join.result
    (sym c.is_free.ensures ∙ c.if-is_free.false) c.first_join.ensures
