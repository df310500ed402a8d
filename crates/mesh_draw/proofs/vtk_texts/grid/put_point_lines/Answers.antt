use Rattle.mesh_draw.specs.Text.{point_line}
use Rattle.mesh_draw.proofs.vtk_texts.Sections.{row_within, line_more}
use Rattle.std.proofs.Common.{length}
use Rattle.mesh_draw.proofs.vtk_texts.grid.put_point_lines.Goals as goal

pub put_point-requires-clause-node : goal.put_point-requires-clause-node
put_point-requires-clause-node c =
    row_within c.args.nodes c.loop-node.node c.args.dim (length c.args.values.now) c.loop-node-test.true c.requires.count

pub loop-node-preserved : goal.loop-node-preserved
loop-node-preserved c =
    line_more (point_line c.args.dim c.args.values.now) c.loop-node.node c.args.out.now.items c.loop-node.out.items
    c.put_point.new.out.items c.loop-node.invariant c.in_ok-put_point.ensures
