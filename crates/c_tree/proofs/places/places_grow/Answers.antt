use Rattle.c_tree.proofs.Kept.{places_grow}
use Rattle.c_tree.proofs.places.places_grow.Goals as goal

pub returns : goal.returns
returns c = places_grow (λ bytes tokens l. c.tokens_in_order.ensures bytes tokens l)
