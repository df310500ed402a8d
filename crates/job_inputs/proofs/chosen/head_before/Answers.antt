use Rattle.std.proofs.Common.{sym, subst}
use Rattle.std.specs.Prelude.{Ok}
use Rattle.answers.specs.Judgements.{AccessesAre}
use Rattle.job_inputs.proofs.chosen.head_before.Goals as goal

-- a head has the kernels and the loops of the program
pub returns-in-Ok-clause-obeyed : goal.returns-in-Ok-clause-obeyed
returns-in-Ok-clause-obeyed c = subst (λ b. AccessesAre b (Ok tt)) (sym c.in-Ok.ensures.head) c.requires.obeyed
