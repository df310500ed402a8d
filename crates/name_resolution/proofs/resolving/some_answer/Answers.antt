use Rattle.name_resolution.proofs.Comes as law
use Rattle.name_resolution.proofs.resolving.some_answer.Goals as goal

pub returns-clause-some : goal.returns-clause-some
returns-clause-some c = law.some_outcome

pub returns-clause-causes : goal.returns-clause-causes
returns-clause-causes c = law.refusals_have_causes

pub returns-clause-kernels : goal.returns-clause-kernels
returns-clause-kernels c = law.some_kernels c.tokens_are_few.ensures
