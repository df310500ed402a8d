use Rattle.kernel_runs.proofs.row_batches.Asides.{apart}
use Rattle.kernel_runs.proofs.row_batches.laws.places_stay_apart.Goals as goal

pub returns : goal.returns
returns c = apart
