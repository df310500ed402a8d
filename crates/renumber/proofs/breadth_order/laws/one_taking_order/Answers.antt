use Rattle.renumber.proofs.breadth_order.OneOrder.{one_taking, degrees_apart}
use Rattle.renumber.proofs.breadth_order.laws.one_taking_order.Goals as goal

pub returns-clause-one : goal.returns-clause-one
returns-clause-one c = one_taking

pub returns-clause-degrees : goal.returns-clause-degrees
returns-clause-degrees c = degrees_apart
