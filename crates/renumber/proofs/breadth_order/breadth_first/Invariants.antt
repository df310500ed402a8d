use Rattle.std.proofs.Common.{◌≡◌, ◌<◌, ℕ, true, false, length, get_or}
use Rattle.mesh_decl.specs.Mesh.{set_size, map_to}
use Rattle.renumber.specs.Keys.{keyed}
use Rattle.renumber.specs.Neighbours.{are_neighbours}
use Rattle.renumber.specs.Taken.{IsTaken, IsWalk}
use Rattle.renumber.proofs.breadth_order.breadth_first.Given as goal

abbrev pub invariant-loop-start : goal.invariant-loop-start
invariant-loop-start l = record {
  walk : IsWalk (set_size l.mesh (map_to l.mesh l.map)) (are_neighbours l.mesh l.map) l.order.items l.seen.items (length l.order.items);
  done : (i : ℕ) → i < l.start-index → get_or l.seen.items (get_or l.starts i 0) false ≡ true;
  taken : IsTaken (set_size l.mesh (map_to l.mesh l.map)) (are_neighbours l.mesh l.map) (keyed l.keys) l.order.items;
}
