use Rattle.c_reader.proofs.Programs.{one_tree}
use Rattle.c_reader.proofs.reading.one_tree.Goals as goal

pub returns : goal.returns
returns c = λ bytes a b r s. one_tree bytes a b (λ x y l m. c.one_outcome.ensures bytes x y l m) r s
