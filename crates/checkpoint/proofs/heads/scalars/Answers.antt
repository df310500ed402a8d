use Rattle.std.proofs.Common.{◌≡◌, ◌+◌, rules}
use Rattle.checkpoint.proofs.ItemsMade.{cells-next}
use Rattle.checkpoint.proofs.heads.scalars.Goals as goal

pub loop-i-preserved : goal.loop-i-preserved
loop-i-preserved c =
    let e : c.in-Ok.cell ≡ c.args.from + c.loop-i.i = search rules in
    cells-next c.args.from c.loop-i.i c.in-Ok.cell c.loop-i.cells.items c.push.new.self.items e c.in_ok-push.ensures.items c.loop-i.invariant
