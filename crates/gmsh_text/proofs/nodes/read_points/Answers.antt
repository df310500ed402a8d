use Rattle.std.proofs.Common.{◌∙◌, arith}
use Rattle.gmsh_text.specs.Reading.{point_row}
use Rattle.gmsh_text.proofs.Repeating.{done, more, stopped, passed_made}
use Rattle.gmsh_text.proofs.nodes.read_points.Goals as goal

pub returns-in_err-read_node_point : goal.returns-in_err-read_node_point
returns-in_err-read_node_point c =
    passed_made c.from_residual.result _ _ _ _ c.from_residual.ensures.1
    (stopped (point_row c.args.extra) _ _ _ _ _ c.loop.invariant (omega arith) c.in_err-read_node_point.ensures)

pub loop-preserved : goal.loop-preserved
loop-preserved c = c.loop.invariant ∙ more (point_row c.args.extra) _ _ _ _ _ _ (omega arith) c.in_ok-read_node_point.ensures

pub returns : goal.returns
returns c = c.loop.invariant ∙ done (point_row c.args.extra) _ _ _ (omega arith)
