use Rattle.std.proofs.Common.{◌≡◌, ◌<◌, ◌≤◌, ◌+◌, ◌⊎◌, ℕ, pos, get_or}
use Rattle.op_num.specs.Reduction.{merged}
use Rattle.rank_state.specs.Windows.{operation}
use Rattle.deep_halo.proofs.chain_ranks.chain_elements.merging.merge_cells.Given as goal

abbrev pub invariant-loop-i : goal.invariant-loop-i
invariant-loop-i l = ((j : ℕ) → j < l.i → get_or l.partials (l.at + j) (pos 0) ≡ merged (operation l.how) (get_or l.initial.partials (l.at + j) (pos 0)) (get_or l.amounts (l.from + j) (pos 0)))
    × ((k : ℕ) → (k < l.at) ⊎ (l.at + l.i ≤ k) → get_or l.partials k (pos 0) ≡ get_or l.initial.partials k (pos 0))
