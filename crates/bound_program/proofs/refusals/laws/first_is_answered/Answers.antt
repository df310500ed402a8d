use Rattle.bound_program.proofs.refusals.First as law
use Rattle.bound_program.proofs.refusals.laws.first_is_answered.Goals as goal

pub returns : goal.returns
returns c = record { answered = law.answers; one = law.one }
