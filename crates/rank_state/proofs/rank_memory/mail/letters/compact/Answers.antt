use Rattle.std.proofs.Common.{◌+◌, ◌<◌, length, arith}
use Rattle.rank_state.proofs.rank_memory.Moving.{Halfway, start, passed, moved_on}
use Rattle.rank_state.proofs.rank_memory.mail.letters.compact.Goals as goal
use Rattle.rank_state.proofs.rank_memory.mail.letters.compact.Goals.{then-not-letters-i, else-not-letters-i}

pub loop-i-init : goal.loop-i-init
loop-i-init c = start c.args.letters.now c.args.cells.now c.requires.order

pub loop-i-preserved : goal.loop-i-preserved
loop-i-preserved c =
    let inv = c.loop-i.invariant in
    let lt : c.loop-i.i < length c.loop-i.letters = omega (arith, c.loop-i-test.true, c.loop-i.auto.letters) in
    elim c.if-not-letters-i.branch [
      | then-not-letters-i w ↦
          let m = w.move_down-end.ensures in
          let next : Halfway c.args.letters.now c.args.cells.now c.if-not-letters-i.kept (c.loop-i.i + 1) w.move_down-end.result w.move_down-end.new.letters w.move_down-end.new.cells =
          moved_on c.args.letters.now c.args.cells.now c.loop-i.kept c.if-not-letters-i.kept c.loop-i.i (c.loop-i.i + 1) c.loop-i.end
          w.move_down-end.result c.loop-i.letters w.move_down-end.new.letters c.loop-i.cells w.move_down-end.new.cells
          (omega (arith, w.kept-is)) (omega arith) lt w.if-not-letters-i.true inv m.cells m.done m.rest m.unread m.after m.posts in
          rw (w.letters-is, w.cells-is, w.end-is) next
      | else-not-letters-i w ↦
          rw (w.letters-is, w.cells-is, w.end-is, w.kept-is)
          (passed c.args.letters.now c.args.cells.now c.loop-i.kept c.loop-i.i (c.loop-i.i + 1) c.loop-i.end c.loop-i.letters
          c.loop-i.cells (omega arith) lt w.if-not-letters-i.false inv)
    ]
