use Rattle.renumber.proofs.OneNumbering.{one_identity, one_cuthill_mckee}
use Rattle.renumber.proofs.laws.one_numbering.Goals as goal

pub returns-clause-identity : goal.returns-clause-identity
returns-clause-identity c = one_identity

pub returns-clause-cuthill_mckee : goal.returns-clause-cuthill_mckee
returns-clause-cuthill_mckee c = λ g m a b sizes at h k. one_cuthill_mckee c.one_taking_order.ensures.one c.one_taking_order.ensures.degrees g m sizes at a b h k
