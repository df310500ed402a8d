use Rattle.std.proofs.Common.{◌≡◌, ◌≤◌, ◌-◌, ℕ, true, false, length, get_or}
use Rattle.mesh_decl.specs.Mesh.{set_size, map_to}
use Rattle.renumber.specs.Keys.{keyed}
use Rattle.renumber.specs.Neighbours.{are_neighbours}
use Rattle.renumber.specs.Taken.{IsTaken, IsWalk}
use Rattle.renumber.proofs.breadth_order.take_reached.Given as goal

abbrev pub invariant-loop-head : goal.invariant-loop-head
invariant-loop-head l = record {
  walk : IsWalk (set_size l.mesh (map_to l.mesh l.map)) (are_neighbours l.mesh l.map) l.order.items l.seen l.head;
  within : l.head ≤ length l.order.items;
  taken : IsTaken (set_size l.mesh (map_to l.mesh l.map)) (are_neighbours l.mesh l.map) (keyed l.keys) l.fn.order.items
      → IsTaken (set_size l.mesh (map_to l.mesh l.map)) (are_neighbours l.mesh l.map) (keyed l.keys) l.order.items;
  kept : (y : ℕ) → get_or l.fn.seen y false ≡ true → get_or l.seen y false ≡ true;
}

abbrev pub decreases-loop-head : goal.decreases-loop-head
decreases-loop-head l = set_size l.mesh (map_to l.mesh l.map) - l.head
