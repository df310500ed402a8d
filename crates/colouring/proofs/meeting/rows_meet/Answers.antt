use Rattle.std.proofs.Common.{arith}
use Rattle.colouring.proofs.Marking.{found, none_more, marked_more}
use Rattle.colouring.proofs.meeting.rows_meet.Goals as goal

pub returns-then-row_meets-clause-found : goal.returns-then-row_meets-clause-found
returns-then-row_meets-clause-found c = λ _.
    let x = c.row_meets.ensures.found c.if-row_meets.true in
    found c.args.targets.now c.args.width c.args.colours.now c.args.order.now c.args.first c.requires.few c.requires.rows c.requires.sorted
    c.loop-row.row-index c.loop-row-test.true c.loop-row.marks c.loop-row.invariant.marked
    (λ k l. (let w = c.requires.targets k l in omega arith)) x.0 x.1 x.2

pub loop-row-preserved : goal.loop-row-preserved
loop-row-preserved c = record {
  marked = marked_more c.args.targets.now c.args.width c.args.colours.now c.args.order.now c.args.first c.requires.few c.requires.rows
      c.requires.sorted c.loop-row.row-index c.loop-row-test.true c.loop-row.marks c.loop-row.invariant.marked
      (λ k l. (let w = c.requires.targets k l in omega arith)) c.row_meets.new.marks c.row_meets.auto.marks (c.row_meets.ensures.marks c.if-row_meets.false);
  apart = none_more c.args.targets.now c.args.width c.args.colours.now c.args.order.now c.args.first c.requires.few c.requires.rows
      c.requires.sorted c.loop-row.row-index c.loop-row-test.true c.loop-row.marks c.loop-row.invariant.marked
      (λ k l. (let w = c.requires.targets k l in omega arith)) c.loop-row.invariant.apart (c.row_meets.ensures.clear c.if-row_meets.false);
}
