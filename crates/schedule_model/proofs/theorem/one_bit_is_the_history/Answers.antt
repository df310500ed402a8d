use Rattle.schedule_model.proofs.History.{one_bit}
use Rattle.schedule_model.proofs.theorem.one_bit_is_the_history.Goals as goal

pub returns : goal.returns
returns c = one_bit
