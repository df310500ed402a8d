use Rattle.std.proofs.Common.{◌≡◌, ◌<◌, ℕ, length}
use Rattle.lemmas.specs.Below.{row, listed}
use Rattle.local_mesh.specs.RankSet.{has_at}
use Rattle.local_mesh.proofs.rank_sets.lists.places_by_rank.Given as goal

abbrev pub invariant-loop-place : goal.invariant-loop-place
invariant-loop-place l = (length l.lists.items ≡ l.ranks) × ((r : ℕ) → r < l.ranks → row l.lists.items r ≡ listed l.place (λ x. has_at l.sets x r))
