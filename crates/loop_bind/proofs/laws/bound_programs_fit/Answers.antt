use Rattle.loop_bind.proofs.FitsProgram as law
use Rattle.loop_bind.proofs.laws.bound_programs_fit.Goals as goal

pub returns : goal.returns
returns c = law.bound_programs_fit c.named_names_are_all.ensures
