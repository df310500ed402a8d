use Rattle.gmsh_mesh.specs.Nodes.{AreInOrderUpTo}
use Rattle.gmsh_mesh.proofs.cell_faces.ordering.sort_rows.Given as goal

abbrev pub invariant-loop-row : goal.invariant-loop-row
invariant-loop-row l = AreInOrderUpTo l.row l.count l.width l.fn.rows l.rows
