use Rattle.loop_plan.proofs.Lines.{part_put}
use Rattle.loop_plan.proofs.writing.put_word.Goals as goal

pub returns : goal.returns
returns c =
    part_put c.args.out.now.items c.extend_from_slice.new.self.items c.extend_from_slice-2.new.self.items c.args.word.now
    c.in_ok-extend_from_slice.ensures.items c.in_ok-extend_from_slice-2.ensures.items
