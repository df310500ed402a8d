use Rattle.std.proofs.Common.{◌≡◌, ◌<◌, ◌≤◌, ◌+◌, ℕ, true, false, length, get_or}
use Rattle.mesh_decl.specs.Mesh.{set_size, map_to}
use Rattle.renumber.specs.Neighbours.{are_neighbours}
use Rattle.renumber.specs.Taken.{IsWalk}
use Rattle.partition.specs.Block.{block_start}
use Rattle.partition.specs.Grow.{IsGrowing}
use Rattle.partition.proofs.growth.take_neighbours.Given as goal

abbrev pub invariant-loop-neighbour : goal.invariant-loop-neighbour
invariant-loop-neighbour l = record {
  walk : IsWalk (set_size l.mesh (map_to l.mesh l.map)) (are_neighbours l.mesh l.map) l.order.items l.seen 0;
  more : length l.fn.order.items ≤ length l.order.items;
  end : length l.order.items ≤ l.end;
  here : get_or l.order.items l.head 0 ≡ get_or l.fn.order.items l.head 0;
  done : length l.order.items < l.end → (i : ℕ) → i < l.neighbour-index → get_or l.seen (get_or l.neighbour-items i 0) false ≡ true;
  kept : (y : ℕ) → get_or l.fn.seen y false ≡ true → get_or l.seen y false ≡ true;
  grown : (ranks i : ℕ) → l.end ≡ block_start (set_size l.mesh (map_to l.mesh l.map)) ranks (i + 1)
      → block_start (set_size l.mesh (map_to l.mesh l.map)) ranks i ≤ l.head
      → IsGrowing (set_size l.mesh (map_to l.mesh l.map)) ranks (are_neighbours l.mesh l.map) i l.head l.fn.order.items l.fn.seen
      → IsGrowing (set_size l.mesh (map_to l.mesh l.map)) ranks (are_neighbours l.mesh l.map) i l.head l.order.items l.seen;
}
