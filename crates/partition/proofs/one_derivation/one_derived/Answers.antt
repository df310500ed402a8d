use Rattle.partition.proofs.OneDerivation.{one_blocks, one_derivation}
use Rattle.partition.proofs.one_derivation.one_derived.Goals as goal

pub returns-clause-blocks : goal.returns-clause-blocks
returns-clause-blocks c = one_blocks

pub returns-clause-derived : goal.returns-clause-derived
returns-clause-derived c = one_derivation
