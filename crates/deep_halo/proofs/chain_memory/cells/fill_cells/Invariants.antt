use Rattle.std.proofs.Common.{◌≡◌, ◌<◌, ◌≤◌, ◌+◌, ◌⊎◌, ℕ, pos, get_or}
use Rattle.deep_halo.proofs.chain_memory.cells.fill_cells.Given as goal

abbrev pub invariant-loop-i : goal.invariant-loop-i
invariant-loop-i l = ((j : ℕ) → j < l.i → get_or l.memory (l.from + j) (pos 0) ≡ l.value)
    × ((k : ℕ) → (k < l.from) ⊎ (l.from + l.i ≤ k) → get_or l.memory k (pos 0) ≡ get_or l.initial.memory k (pos 0))
