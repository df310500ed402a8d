use Rattle.std.proofs.Common.{◌≡◌, ◌<◌, ◌&&◌, not, ℕ, length, true, cond, [], ◌∷◌, ◌++◌}
use Rattle.lemmas.specs.Below.{row}
use Rattle.local_mesh.specs.RankSet.{has}
use Rattle.local_mesh.proofs.rank_sets.lists.push_each.Given as goal

abbrev pub invariant-loop-rank : goal.invariant-loop-rank
invariant-loop-rank l = ((r : ℕ) → r < 64 → has l.rest r ≡ true → has l.fn.ranks r ≡ true)
    × ((r : ℕ) → r < length l.initial.lists → row l.lists r ≡ row l.initial.lists r ++ cond (has l.fn.ranks r && not (has l.rest r)) (l.number ∷ []) [])

abbrev pub decreases-loop-rank : goal.decreases-loop-rank
decreases-loop-rank l = l.rest.bits
