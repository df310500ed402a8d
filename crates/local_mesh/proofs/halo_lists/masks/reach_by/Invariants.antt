use Rattle.std.proofs.Common.{◌≡◌, ◌<◌, ◌≤◌, ◌||◌, ℕ}
use Rattle.local_mesh.specs.RankSet.{has_at}
use Rattle.local_mesh.specs.Halo.{reaches_by}
use Rattle.local_mesh.proofs.halo_lists.masks.reach_by.Given as goal

abbrev pub invariant-loop-element : goal.invariant-loop-element
invariant-loop-element l = ((x r : ℕ) → x < l.element → has_at l.sets x r ≡ (has_at l.initial.sets x r || reaches_by l.mesh l.owners l.map x r))
    × ((x r : ℕ) → l.element ≤ x → has_at l.sets x r ≡ has_at l.initial.sets x r)
