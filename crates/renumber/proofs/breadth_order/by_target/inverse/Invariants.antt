use Rattle.std.proofs.Common.{◌≡◌, ◌<◌, [], ℕ, length, get_or}
use Rattle.mesh_decl.specs.Mesh.{set_size, map_from, map_to}
use Rattle.renumber.specs.Neighbours.{havers}
use Rattle.renumber.proofs.breadth_order.by_target.inverse.Given as goal

abbrev pub invariant-loop-element : goal.invariant-loop-element
invariant-loop-element l = record {
  count : length l.filling.rows ≡ set_size l.mesh (map_to l.mesh l.map);
  room : (x : ℕ) → x < set_size l.mesh (map_to l.mesh l.map) → get_or l.filling.room x 0 ≡ length (havers l.mesh l.map (set_size l.mesh (map_from l.mesh l.map)) x);
  rows : (x : ℕ) → x < set_size l.mesh (map_to l.mesh l.map) → get_or l.filling.rows x [] ≡ havers l.mesh l.map l.element x;
}
