use Rattle.std.proofs.Common.{sym}
use Rattle.rank_program.proofs.begun.original_at.Goals as goal

pub original_in-requires-clause-step : goal.original_in-requires-clause-step
original_in-requires-clause-step c = rw c.parts.ensures.are c.requires

pub returns : goal.returns
returns c = rw (sym c.parts.ensures.are) c.original_in.ensures
