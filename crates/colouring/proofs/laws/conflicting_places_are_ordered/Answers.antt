use Rattle.colouring.proofs.Ordering.{places_are_ordered}
use Rattle.colouring.proofs.laws.conflicting_places_are_ordered.Goals as goal

pub returns : goal.returns
returns c = λ g maps args places size d. places_are_ordered g maps args places size d
