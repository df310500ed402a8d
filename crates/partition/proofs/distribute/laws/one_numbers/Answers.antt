use Rattle.mesh_decl.proofs.Public.{in_range}
use Rattle.partition.proofs.distribute.OneOutcome.{one_numbers}
use Rattle.partition.proofs.distribute.laws.one_numbers.Goals as goal

pub returns : goal.returns
returns c = λ g name a b mesh h k. one_numbers c.one_named.ensures c.one_numbering.ensures.identity c.one_numbering.ensures.cuthill_mckee g name a b (in_range g mesh) h k
