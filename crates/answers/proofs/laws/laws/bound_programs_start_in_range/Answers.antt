use Rattle.answers.proofs.laws.FirstValues as law
use Rattle.answers.proofs.laws.laws.bound_programs_start_in_range.Goals as goal

pub returns : goal.returns
returns c p types text es b source spells is = law.bound_programs_start_in_range p types text es b source.tops source.body spells is
