use Rattle.schedule_steps.specs.Turns.{nothing_taken}
use Rattle.schedule_steps.specs.Drawn.{own}
use Rattle.schedule_steps.proofs.Drawn.{drawn_once}
use Rattle.schedule_steps.proofs.orders.drawn_once.Goals as goal

pub returns : goal.returns
returns c = λ o g seed l n h i. drawn_once o g l n (own o g) nothing_taken seed h i
