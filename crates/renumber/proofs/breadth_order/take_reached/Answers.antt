use Rattle.std.proofs.Common.{arith}
use Rattle.renumber.proofs.breadth_order.take_reached.Goals as goal

pub loop-head-preserved : goal.loop-head-preserved
loop-head-preserved c = record {
  walk = c.in_ok-take_neighbours.ensures.walk;
  within = omega (arith, c.in_ok-take_neighbours.ensures.more);
  taken = λ was. c.in_ok-take_neighbours.ensures.taken (c.loop-head.invariant.taken was);
  kept = λ y t. c.in_ok-take_neighbours.ensures.kept y (c.loop-head.invariant.kept y t);
}
