use Rattle.std.proofs.Common.{arith}
use Rattle.std.proofs.lemmas.List.{length_push}
use Rattle.renumber.proofs.Kept.{number_more}
use Rattle.renumber.proofs.orders.counting.Goals as goal

pub loop-number-preserved : goal.loop-number-preserved
loop-number-preserved c = rw c.in_ok-push.ensures.items (
  omega (arith, length_push c.loop-number.numbers.items c.loop-number.number, c.loop-number.invariant.0),
  number_more c.loop-number.numbers.items c.loop-number.number c.loop-number.invariant.0 c.loop-number.invariant.1,
)
