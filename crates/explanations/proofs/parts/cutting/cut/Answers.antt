use Rattle.std.proofs.Common.{◌∙◌, sym}
use Rattle.explanations.proofs.parts.PartsCut.{last_part, part_cut}
use Rattle.explanations.proofs.parts.cutting.cut.Goals as goal

pub returns-then-len-bytes-clause-parts : goal.returns-then-len-bytes-clause-parts
returns-then-len-bytes-clause-parts c =
    last_part c.args.separator c.args.bytes.now (sym c.part_len-len.ensures.size ∙ c.if-len-bytes.true)

pub returns-clause-parts : goal.returns-clause-parts
returns-clause-parts c =
    part_cut c.args.separator c.part_len-len.result c.args.bytes.now c.split_at.result.0.now c.split_at.result.1.now c.split_at-2.result.1.now
    c.part_len-len.ensures.size c.part_len-len.ensures.within c.if-len-bytes.false c.split_at.ensures.front c.split_at.ensures.back c.split_at-2.ensures.back
