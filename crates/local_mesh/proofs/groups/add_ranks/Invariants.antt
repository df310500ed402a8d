use Rattle.std.proofs.Common.{◌≡◌, ◌&&◌, ◌||◌, ltb, ℕ}
use Rattle.lemmas.specs.Below.{row}
use Rattle.local_mesh.specs.RankSet.{has_at}
use Rattle.local_mesh.specs.Standing.{stands}
use Rattle.local_mesh.proofs.groups.add_ranks.Given as goal

abbrev pub invariant-loop-rank : goal.invariant-loop-rank
invariant-loop-rank l = (x r : ℕ) → has_at l.sets x r ≡ (has_at l.initial.sets x r || (ltb r l.rank && stands (row l.lists r) x))
