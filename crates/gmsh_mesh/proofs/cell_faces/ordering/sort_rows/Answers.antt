use Rattle.std.proofs.Common.{arith}
use Rattle.gmsh_mesh.proofs.cell_faces.Sorting.{step, all}
use Rattle.gmsh_mesh.proofs.cell_faces.ordering.sort_rows.Goals as goal

pub loop-row-preserved : goal.loop-row-preserved
loop-row-preserved c =
    step c.args.rows.now c.loop-row.rows c.sort_row.new.row c.args.count c.args.width c.loop-row.row c.loop-row.invariant c.loop-row-test.true c.requires.table
    c.sort_row.ensures.order c.sort_row.ensures.size

pub returns : goal.returns
returns c = all c.args.rows.now c.loop-row.rows c.args.count c.args.width c.loop-row.row (omega arith) c.loop-row.invariant
