use Rattle.rank_state.specs.Queues.{Queued}
use Rattle.rank_state.proofs.rank_memory.mail.queues.link_all.Given as goal

abbrev pub invariant-loop-at : goal.invariant-loop-at
invariant-loop-at l = Queued l.queues l.next l.letters l.at
