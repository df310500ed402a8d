use Rattle.loop_bind.proofs.source_fits.Whole.{sources_are}
use Rattle.loop_bind.proofs.source_fits.laws.resolved_sources_are.Goals as goal

pub returns : goal.returns
returns c = sources_are c.kernels_are_resolved.ensures
