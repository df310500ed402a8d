use Rattle.std.proofs.Common.{◌<◌, ℕ, length, get_or, None}
use Rattle.rank_state.proofs.rank_memory.Queued.{Ahead}
use Rattle.rank_state.proofs.rank_memory.mail.queues.unlink_all.Given as goal

abbrev pub invariant-loop-letter : goal.invariant-loop-letter
invariant-loop-letter l = (k : ℕ) → k < length l.queues → Ahead (length l.queues) l.letters l.letter-index k (get_or l.queues k None)
