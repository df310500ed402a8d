-- The messages of an item, by rank.
use Rattle.std.specs.Prelude.{◌≡◌, ◌<◌, ◌==◌, ℕ, List, [], Vec, map, filter, slice_index_or}
use Rattle.std.specs.declared.alloc.Global.{Global}
use Rattle.lemmas.specs.Below.{row}
use Rattle.loop_plan.specs.declared.types.Pair.{Pair}
use Rattle.schedule_check.specs.declared.plan_orders.messages.Messages.{Messages}

-- the receivers of a sender's messages
abbrev pub receivers_in : List Pair → ℕ → List ℕ
receivers_in pairs s = map (λ (q : Pair). q.to) (filter (λ (q : Pair). q.from == s) pairs)

-- the senders of a receiver's messages
abbrev pub senders_in : List Pair → ℕ → List ℕ
senders_in pairs r = map (λ (q : Pair). q.from) (filter (λ (q : Pair). q.to == r) pairs)

-- by rank, the lists of an item's receivers and senders among so many ranks
pub record HasMessages (pairs : List Pair) (ranks : ℕ) (receivers senders : List (Vec ℕ Global)) : Type 0 where
  pub sent : (s : ℕ) → s < ranks → row receivers s ≡ receivers_in pairs s
  pub received : (r : ℕ) → r < ranks → row senders r ≡ senders_in pairs r

-- the lists of receivers of item k, by sender
abbrev pub receiver_lists : List Messages → ℕ → List (Vec ℕ Global)
receiver_lists items k = slice_index_or (map (λ (m : Messages). m.receivers.items) items) k []

-- the lists of senders of item k, by receiver
abbrev pub sender_lists : List Messages → ℕ → List (Vec ℕ Global)
sender_lists items k = slice_index_or (map (λ (m : Messages). m.senders.items) items) k []
