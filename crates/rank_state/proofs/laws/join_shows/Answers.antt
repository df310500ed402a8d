use Rattle.rank_state.proofs.Joins.{stops, reduces, halts, hosts}
use Rattle.rank_state.proofs.laws.join_shows.Goals as goal

pub returns-clause-stops : goal.returns-clause-stops
returns-clause-stops g c p l t st f h k = stops p l t st f h c.one_fault_is_enough.ensures.kept k

pub returns-clause-reduces : goal.returns-clause-reduces
returns-clause-reduces g c p l t st f h k = reduces p l t st f h c.one_fault_is_enough.ensures.kept k

pub returns-clause-halts : goal.returns-clause-halts
returns-clause-halts g c p l t st f h k = halts p l t st f h c.one_fault_is_enough.ensures.kept k

pub returns-clause-hosts : goal.returns-clause-hosts
returns-clause-hosts g c p l t st f h k = hosts p l t st f h c.one_fault_is_enough.ensures.kept k
