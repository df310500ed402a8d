use Rattle.std.proofs.Common.{◌≡◌, ◌<◌, ◌≤◌, ℕ, true, false, length, get_or}
use Rattle.mesh_decl.specs.Mesh.{set_size, map_to}
use Rattle.renumber.specs.Keys.{keyed}
use Rattle.renumber.specs.Neighbours.{are_neighbours}
use Rattle.renumber.specs.Taken.{IsTaken, IsWalk}
use Rattle.renumber.proofs.breadth_order.take_neighbours.Given as goal

abbrev pub invariant-loop-neighbour : goal.invariant-loop-neighbour
invariant-loop-neighbour l = record {
  walk : IsWalk (set_size l.mesh (map_to l.mesh l.map)) (are_neighbours l.mesh l.map) l.order.items l.seen l.head;
  more : length l.fn.order.items ≤ length l.order.items;
  here : get_or l.order.items l.head 0 ≡ get_or l.fn.order.items l.head 0;
  done : (i : ℕ) → i < l.neighbour-index → get_or l.seen (get_or l.neighbour-items i 0) false ≡ true;
  taken : IsTaken (set_size l.mesh (map_to l.mesh l.map)) (are_neighbours l.mesh l.map) (keyed l.keys) l.fn.order.items
      → IsTaken (set_size l.mesh (map_to l.mesh l.map)) (are_neighbours l.mesh l.map) (keyed l.keys) l.order.items;
  kept : (y : ℕ) → get_or l.fn.seen y false ≡ true → get_or l.seen y false ≡ true;
}
