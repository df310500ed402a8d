use Rattle.colouring.proofs.Reaching.{reached_conflict}
use Rattle.colouring.proofs.laws.common_targets_conflict.Goals as goal

pub returns : goal.returns
returns c = λ g o p r m args places dats perms is. reached_conflict c.originals_are_distinct.ensures g o p r m perms dats is args places
