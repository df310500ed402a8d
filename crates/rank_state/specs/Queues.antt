-- The letters of each receiver, in a queue of links through all letters, so that a receiver finds its own.
use Rattle.std.specs.Prelude.{◌≡◌, ◌≢◌, ℕ, ◌%◌, ◌<◌, ◌≤◌, false, List, length, get_or, Option, Some, None}
use Rattle.rank_state.specs.Letters.{no_letter}
use Rattle.rank_state.specs.declared.rank_memory.mail.Letter.{Letter}
use Rattle.rank_state.specs.declared.rank_memory.mail.queues.Queue.{Queue}

-- which of n queues a letter is in
abbrev pub queue_at : ℕ → List Letter → ℕ → ℕ
queue_at n ls i = (get_or ls i no_letter).to % n

-- what follows a letter in its queue, among the first c letters
abbrev pub IsNext : ℕ → List Letter → ℕ → ℕ → Option ℕ → Type 0
IsNext n ls c i None = (m : ℕ) → i < m → m < c → queue_at n ls m ≢ queue_at n ls i
IsNext n ls c i (Some j) = (i < j) × (j < c) × (queue_at n ls j ≡ queue_at n ls i)
    × ((m : ℕ) → i < m → m < j → queue_at n ls m ≢ queue_at n ls i)

-- a letter of the queue that is unread
abbrev pub Waits : ℕ → List Letter → ℕ → ℕ → Type 0
Waits n ls k m = (queue_at n ls m ≡ k) × ((get_or ls m no_letter).is_read ≡ false)

-- a queue's letters, from one that stands before none that is unread to the last of the first c letters
pub record Links (n : ℕ) (ls : List Letter) (next : List (Option ℕ)) (c k : ℕ) (w : Queue) : Type 0 where
  pub first_in : w.first < c
  pub first_of : queue_at n ls w.first ≡ k
  pub last_in : w.last < c
  pub last_of : queue_at n ls w.last ≡ k
  pub unread : (m : ℕ) → m < c → Waits n ls k m → w.first ≤ m
  pub all : (m : ℕ) → m < c → queue_at n ls m ≡ k → m ≤ w.last
  pub steps : (i : ℕ) → w.first ≤ i → i < c → queue_at n ls i ≡ k → IsNext n ls c i (get_or next i None)

-- a queue; there is none where none of its letters is unread
abbrev pub IsQueue : ℕ → List Letter → List (Option ℕ) → ℕ → ℕ → Option Queue → Type 0
IsQueue n ls next c k None = (m : ℕ) → m < c → Waits n ls k m → ⊥
IsQueue n ls next c k (Some w) = Links n ls next c k w

-- the queues of the first c letters
abbrev pub Queued : List (Option Queue) → List (Option ℕ) → List Letter → ℕ → Type 0
Queued queues next ls c = (k : ℕ) → k < length queues → IsQueue (length queues) ls next c k (get_or queues k None)
