use Rattle.schedule_model.proofs.schedule_laws.ByArguments.{by_touches}
use Rattle.schedule_model.proofs.schedule_laws.arguments_give_touches.Goals as goal

pub returns : goal.returns
returns g c = λ entry dim width arg n e is_constant run constants indep. by_touches entry dim width arg n e is_constant constants run indep
