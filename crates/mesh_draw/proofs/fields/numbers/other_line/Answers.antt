use Rattle.mesh_draw.proofs.fields.NumberLines.{passed_more}
use Rattle.mesh_draw.proofs.fields.numbers.other_line.Goals as goal

pub loop-lines-preserved : goal.loop-lines-preserved
loop-lines-preserved c =
    passed_more c.args.dim c.args.text.now c.loop-lines.lines c.next.new.self c.in-Some.line.now c.loop-lines.invariant c.in-Some.ensures
    (c.has_numbers.ensures.0 c.if-not-has_numbers.false)
