use Rattle.mesh_draw.proofs.markup.Order.{in_order}
use Rattle.mesh_draw.proofs.markup.laws.nodes_print_in_order.Goals as goal

pub returns : goal.returns
returns c = in_order
