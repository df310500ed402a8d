use Rattle.std.proofs.Common.{arith}
use Rattle.c_tree.proofs.lexer.Values.{value_at_least, value_next}
use Rattle.c_tree.proofs.lexer.classes.number.Goals as goal

pub returns-then-value-gt214748364-clause-none : goal.returns-then-value-gt214748364-clause-none
returns-then-value-gt214748364-clause-none c =
    omega (arith, c.loop-digit.invariant.so_far, value_at_least c.loop-digit.value c.loop-digit.digit-index c.args.digits.now c.loop-digit-test.true)

pub returns-then-value-gt2147483647-clause-none : goal.returns-then-value-gt2147483647-clause-none
returns-then-value-gt2147483647-clause-none c =
    omega (arith, c.loop-digit.invariant.so_far, c.from.ensures, value_next c.loop-digit.value c.loop-digit.digit-index c.args.digits.now c.loop-digit-test.true)
