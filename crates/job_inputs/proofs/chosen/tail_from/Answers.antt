use Rattle.std.proofs.Common.{Ok, sym, subst}
use Rattle.bound_program.specs.Values.{bound_of}
use Rattle.checkpoint.specs.Cut.{state_of}
use Rattle.answers.specs.Judgements.{AccessesAre}
use Rattle.job_inputs.proofs.Stretches.{tail_obeys}
use Rattle.job_inputs.proofs.chosen.tail_from.Goals as goal

pub returns-clause-obeyed : goal.returns-clause-obeyed
returns-clause-obeyed c =
    subst (λ b. AccessesAre b (Ok tt)) (sym c.in_ok-bound.ensures.tail)
    (tail_obeys c.tails_obey.ensures (bound_of c.args.bound) (state_of c.in-Ok.state) c.in-Ok.ensures.says.shape c.requires.obeyed)
