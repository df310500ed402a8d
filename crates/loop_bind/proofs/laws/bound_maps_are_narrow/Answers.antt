use Rattle.loop_bind.proofs.FitsProgram as law
use Rattle.loop_bind.proofs.laws.bound_maps_are_narrow.Goals as goal

pub returns : goal.returns
returns c = law.bound_maps_are_narrow c.named_names_are_all.ensures
