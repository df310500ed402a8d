use Rattle.std.proofs.Common.{◌-◌}
use Rattle.mesh_decl.specs.Mesh.{set_size, map_to}
use Rattle.renumber.specs.Neighbours.{are_neighbours}
use Rattle.partition.proofs.Giving.{IsShare}
use Rattle.partition.proofs.growth.take_share.Given as goal

abbrev pub invariant-loop-order : goal.invariant-loop-order
invariant-loop-order l = IsShare (set_size l.mesh (map_to l.mesh l.map)) (are_neighbours l.mesh l.map) l.end l.head l.least l.fn.order.items l.order.items l.seen

abbrev pub decreases-loop-order : goal.decreases-loop-order
decreases-loop-order l = l.end - l.head
