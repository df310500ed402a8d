use Rattle.std.proofs.Common.{sym, ◌∙◌, arith}
use Rattle.c_tree.specs.Front.{close_len}
use Rattle.c_tree.proofs.lexer.Closes.{rest_is, close_more, close_here, close_end}
use Rattle.c_tree.proofs.lexer.passed.close_at.Goals as goal

pub loop-next-preserved : goal.loop-next-preserved
loop-next-preserved c = record {
  within = omega arith;
  so_far = close_more c.args.bytes.now c.loop-next.next (close_len c.args.bytes.now) c.loop-next-test.true
      (rw (rest_is c.loop-next.next c.args.bytes.now) at (sym c.begins_close.ensures.is ∙ c.if-begins_close.false))
      c.loop-next.invariant.so_far;
}

pub returns-then-begins_close-clause-size : goal.returns-then-begins_close-clause-size
returns-then-begins_close-clause-size c =
    close_here c.args.bytes.now c.loop-next.next (close_len c.args.bytes.now) c.loop-next-test.true
    (rw (rest_is c.loop-next.next c.args.bytes.now) at (sym c.begins_close.ensures.is ∙ c.if-begins_close.true))
    c.loop-next.invariant.so_far

pub returns-clause-size : goal.returns-clause-size
returns-clause-size c =
    close_end c.args.bytes.now c.loop-next.next (close_len c.args.bytes.now) c.loop-next-test.false c.loop-next.invariant.so_far
