use Rattle.std.proofs.Common.{◌≡◌, ◌<◌, ℕ, length, []}
use Rattle.lemmas.specs.Below.{row}
use Rattle.local_mesh.proofs.rank_sets.lists.empty_lists.Given as goal

abbrev pub invariant-loop-rank : goal.invariant-loop-rank
invariant-loop-rank l = (length l.lists.items ≡ l._rank) × ((r : ℕ) → r < l._rank → row l.lists.items r ≡ [])
