use Rattle.loop_bind.proofs.source_fits.Entries.{spelled_fit}
use Rattle.loop_bind.proofs.source_fits.laws.spelled_entries_fit.Goals as goal

pub returns : goal.returns
returns c = spelled_fit
