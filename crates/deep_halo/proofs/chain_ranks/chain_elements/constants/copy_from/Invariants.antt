use Rattle.std.proofs.Common.{◌≡◌, ◌<◌, ◌≤◌, ◌+◌, ◌⊎◌, ℕ, pos, get_or}
use Rattle.deep_halo.proofs.chain_ranks.chain_elements.constants.copy_from.Given as goal

abbrev pub invariant-loop-i : goal.invariant-loop-i
invariant-loop-i l = ((j : ℕ) → j < l.i → get_or l.target (l.to + j) (pos 0) ≡ get_or l.source (l.from + j) (pos 0))
    × ((k : ℕ) → (k < l.to) ⊎ (l.to + l.i ≤ k) → get_or l.target k (pos 0) ≡ get_or l.initial.target k (pos 0))
