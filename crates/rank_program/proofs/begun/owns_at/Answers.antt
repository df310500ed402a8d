use Rattle.std.proofs.Common.{sym}
use Rattle.rank_program.proofs.begun.owns_at.Goals as goal

pub owns_in-requires-clause-step : goal.owns_in-requires-clause-step
owns_in-requires-clause-step c = rw c.parts.ensures.are c.requires

pub returns : goal.returns
returns c = rw (sym c.parts.ensures.are) c.owns_in.ensures
