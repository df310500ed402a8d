use Rattle.std.proofs.Common.{◌≡◌, ◌<◌, ℕ, true, false, length, get_or}
use Rattle.mesh_decl.specs.Mesh.{set_size, map_to}
use Rattle.renumber.specs.Neighbours.{are_neighbours}
use Rattle.renumber.specs.Taken.{IsWalk}
use Rattle.partition.specs.Block.{block_start}
use Rattle.partition.specs.Grow.{AreNextFree}
use Rattle.partition.proofs.growth.giving_order.Given as goal

abbrev pub invariant-loop-rank : goal.invariant-loop-rank
invariant-loop-rank l = record {
  walk : IsWalk (set_size l.mesh (map_to l.mesh l.map)) (are_neighbours l.mesh l.map) l.order.items l.seen.items 0;
  many : length l.order.items ≡ block_start (set_size l.mesh (map_to l.mesh l.map)) l.ranks l.rank;
  before : (y : ℕ) → y < l.least → get_or l.seen.items y false ≡ true;
  next : AreNextFree (set_size l.mesh (map_to l.mesh l.map)) l.ranks (are_neighbours l.mesh l.map) l.order.items;
}
