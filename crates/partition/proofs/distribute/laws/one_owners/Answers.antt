use Rattle.mesh_decl.proofs.Public.{dat_at, in_range}
use Rattle.partition.proofs.distribute.OneOutcome.{one_owners}
use Rattle.partition.proofs.distribute.laws.one_owners.Goals as goal

pub returns : goal.returns
returns c = λ g ranks parts a b mesh some h k.
    one_owners c.one_named.ensures c.one_derived.ensures.blocks c.one_derived.ensures.derived c.one_bisection.ensures c.one_growth.ensures c.one_outcome.ensures.one
    g ranks parts a b (in_range g mesh) (dat_at g mesh) some h k
