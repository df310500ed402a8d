use Rattle.loop_bind.proofs.source_fits.Named.{named_same}
use Rattle.loop_bind.proofs.source_fits.laws.named_names_are_all.Goals as goal

pub returns : goal.returns
returns c = named_same
