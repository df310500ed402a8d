use Rattle.std.proofs.Common.{◌≡◌, ◌≢◌, ◌⊎◌, ◌<◌, ℕ, length, get_or}
use Rattle.partition.proofs.halves.give_all.Given as goal

abbrev pub invariant-loop-element : goal.invariant-loop-element
invariant-loop-element l = (length l.owners ≡ length l.initial.owners)
    × ((k : ℕ) → k < l.element-index → get_or l.owners (get_or l.elements k 0) 0 ≡ l.rank)
    × ((x : ℕ) → ((k : ℕ) → k < l.element-index → get_or l.elements k 0 ≢ x) → get_or l.owners x 0 ≡ get_or l.initial.owners x 0)
    × ((x : ℕ) → (get_or l.owners x 0 ≡ l.rank) ⊎ (get_or l.owners x 0 ≡ get_or l.initial.owners x 0))
