use Rattle.std.proofs.Common.{◌≡◌, ◌<◌, ℕ, length, get_or}
use Rattle.mesh_decl.specs.Mesh.{set_size, map_to}
use Rattle.renumber.specs.Neighbours.{havers}
use Rattle.renumber.proofs.breadth_order.by_target.target_counts.Given as goal

abbrev pub invariant-loop-element : goal.invariant-loop-element
invariant-loop-element l = (length l.counts.items ≡ set_size l.mesh (map_to l.mesh l.map))
    × ((x : ℕ) → x < set_size l.mesh (map_to l.mesh l.map) → get_or l.counts.items x 0 ≡ length (havers l.mesh l.map l.element x))
