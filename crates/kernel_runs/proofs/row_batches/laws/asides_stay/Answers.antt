use Rattle.kernel_runs.proofs.row_batches.Asides.{stays}
use Rattle.kernel_runs.proofs.row_batches.laws.asides_stay.Goals as goal

pub returns : goal.returns
returns c = stays
