use Rattle.std.proofs.Common.{◌≡◌, ◌<◌, ◌≤◌, ◌-◌, ℕ, length}
use Rattle.rank_state.specs.Queues.{queue_at, Waits}
use Rattle.rank_state.proofs.rank_memory.mail.queues.from_unread.Given as goal

abbrev pub invariant-loop-first : goal.invariant-loop-first
invariant-loop-first l = record {
  low : l.all.first ≤ l.first;
  inside : l.first < length l.letters;
  here : queue_at (length l.queues) l.letters l.first ≡ l.queue;
  unread : (m : ℕ) → m < length l.letters → Waits (length l.queues) l.letters l.queue m → l.first ≤ m;
}

abbrev pub decreases-loop-first : goal.decreases-loop-first
decreases-loop-first l = length l.letters - l.first
