use Rattle.schedule_model.specs.Program.{Ordered}
use Rattle.rank_state.proofs.Loops.{goes_on, breaks, ended_there}
use Rattle.rank_state.proofs.Joins.{goes}
use Rattle.rank_state.proofs.laws.loop_shows.Goals as goal

pub returns-clause-goes : goal.returns-clause-goes
returns-clause-goes g c p l t q z k f = goes_on p l t q z c.scatter_is_look_up.ensures k f

pub returns-clause-breaks : goal.returns-clause-breaks
returns-clause-breaks g c p l t q z k f = breaks p l t q z c.scatter_is_look_up.ensures k f

pub returns-clause-ended : goal.returns-clause-ended
returns-clause-ended g c p l k f = ended_there p l k f

pub returns-clause-join : goal.returns-clause-join
returns-clause-join g c p l t st f h k none kind = goes p l t st f h c.one_fault_is_enough.ensures.kept k none Ordered kind
