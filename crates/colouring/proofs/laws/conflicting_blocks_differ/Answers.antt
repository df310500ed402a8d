use Rattle.colouring.proofs.Ordering.{blocks_differ}
use Rattle.colouring.proofs.laws.conflicting_blocks_differ.Goals as goal

pub returns : goal.returns
returns c = λ g maps args places size d. blocks_differ g maps args places size d
