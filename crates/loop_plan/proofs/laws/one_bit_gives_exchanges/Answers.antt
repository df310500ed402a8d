use Rattle.loop_plan.proofs.History.{are_exchanges}
use Rattle.loop_plan.proofs.laws.one_bit_gives_exchanges.Goals as goal

pub returns : goal.returns
returns c = λ b p r n h. are_exchanges b r p n h
