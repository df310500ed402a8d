use Rattle.mesh_decl.proofs.text.Causes as law
use Rattle.mesh_decl.proofs.text.read.one_outcome.Goals as goal

pub returns-clause-one : goal.returns-clause-one
returns-clause-one c = law.one_outcome

pub returns-clause-some : goal.returns-clause-some
returns-clause-some c = law.some_outcome

pub returns-clause-causes : goal.returns-clause-causes
returns-clause-causes c = law.refusals_have_causes
