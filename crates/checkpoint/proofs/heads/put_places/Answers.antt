use Rattle.std.proofs.Common.{◌≡◌, arith}
use Rattle.checkpoint.proofs.Placed.{put-first, put-next, put-last}
use Rattle.checkpoint.proofs.heads.put_places.Goals as goal
use Rattle.checkpoint.proofs.heads.put_places.Goals.{then-i-ne0+in_ok-push, else-i-ne0}

pub loop-i-preserved : goal.loop-i-preserved
loop-i-preserved c = elim c.if-i-ne0.branch [
  | then-i-ne0+in_ok-push w ↦ put-next c.args.text.now.items c.loop-i.text.items w.push.new.self.items c.extend_from_slice.new.self.items c.loop-i.i
      w.if-i-ne0.true c.loop-i.invariant w.in_ok-push.ensures.items (rw w.text-is at c.in_ok-extend_from_slice.ensures.items)
  | else-i-ne0 w ↦ put-first c.args.text.now.items c.loop-i.text.items c.extend_from_slice.new.self.items c.loop-i.i
      w.if-i-ne0.false c.loop-i.invariant (rw w.text-is at c.in_ok-extend_from_slice.ensures.items)
]

pub returns : goal.returns
returns c = λ cells e.
    let n : c.loop-i.i ≡ c.args.count = omega arith in
    put-last c.args.text.now.items c.loop-i.text.items c.push-2.new.self.items c.loop-i.i c.args.count cells n e c.loop-i.invariant c.in_ok-push-2.ensures.items
