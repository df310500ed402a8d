use Rattle.run_model.proofs.Items.{loops_are_there, acts_are_there}
use Rattle.run_model.proofs.items_are_there.Goals as goal

pub returns : goal.returns
returns c = record { loops = loops_are_there; acts = acts_are_there }
