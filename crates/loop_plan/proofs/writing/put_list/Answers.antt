use Rattle.std.proofs.Common.{map, [], ◌∷◌}
use Rattle.std.specs.Fmt.{decimal}
use Rattle.loop_plan.proofs.Lines.{parts_put}
use Rattle.loop_plan.proofs.writing.put_list.Goals as goal

pub returns : goal.returns
returns c =
    parts_put c.args.out.now.items c.put_word.new.out.items c.put_numbers.new.out.items (c.args.word.now ∷ []) (map decimal c.args.numbers.now)
    c.in_ok-put_word.ensures c.in_ok-put_numbers.ensures
