use Rattle.gmsh_mesh.specs.EqualKeys.{AreRowClassesUpTo}
use Rattle.gmsh_mesh.proofs.equal_keys.rows.row_classes.Given as goal

abbrev pub invariant-loop-column : goal.invariant-loop-column
invariant-loop-column l = AreRowClassesUpTo l.rows l.count l.width l.column l.of.items
