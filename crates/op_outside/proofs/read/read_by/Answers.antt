use Rattle.std.proofs.Common.{rules}
use Rattle.op_outside.proofs.Pieces.{front-more}
use Rattle.op_outside.proofs.read.read_by.Goals as goal

pub loop-count-preserved : goal.loop-count-preserved
loop-count-preserved g c = record {
  told = search rules;
  lends = search rules;
  calm = search rules;
  fits = search rules;
  front = let part = rw c.loop-count.invariant.told at c.in-Ok.ensures.read in let more =
      front-more (g.F.Shelf.told c.args.shelf.now) c.args.name.now c.loop-count.bytes.items c.read_at.new.into c.len.result c.in-Ok.count
      (search rules) c.loop-count.invariant.front part in rw c.in_ok-extend_from_slice.ensures.items more;
}
