use Rattle.std.proofs.Common.{◌≡◌, ◌<◌, ◌||◌, ◌&&◌, nat_eq, ℕ, length}
use Rattle.lemmas.specs.Below.{any_below}
use Rattle.local_mesh.specs.RankSet.{has_at}
use Rattle.mesh_decl.specs.Mesh.{set_size, map_from}
use Rattle.local_mesh.specs.Halo.{owns, reaches_by}
use Rattle.local_mesh.proofs.halo_lists.masks.executing_all.Given as goal

abbrev pub invariant-loop-map : goal.invariant-loop-map
invariant-loop-map l = (length l.sets.items ≡ set_size l.mesh l.set)
    × ((x r : ℕ) → x < set_size l.mesh l.set → has_at l.sets.items x r ≡ (owns l.owners l.set x r || any_below l.map (λ m. nat_eq (map_from l.mesh m) l.set && reaches_by l.mesh l.owners m x r)))
