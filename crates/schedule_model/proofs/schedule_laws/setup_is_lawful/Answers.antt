use Rattle.schedule_model.proofs.schedule_laws.Give.{lawful, colours}
use Rattle.schedule_model.proofs.schedule_laws.setup_is_lawful.Goals as goal

pub returns-clause-lawful : goal.returns-clause-lawful
returns-clause-lawful g c = λ p ks is f. lawful p f ks is

pub returns-clause-coloured : goal.returns-clause-coloured
returns-clause-coloured g c = colours
