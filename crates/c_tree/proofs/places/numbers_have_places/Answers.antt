use Rattle.c_tree.proofs.Kept.{numbers_have_places}
use Rattle.c_tree.proofs.places.numbers_have_places.Goals as goal

pub returns : goal.returns
returns c = numbers_have_places
