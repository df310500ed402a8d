use Rattle.gmsh_mesh.specs.Classes.{AreMarks}
use Rattle.gmsh_mesh.proofs.boundary.marked.Given as goal

abbrev pub invariant-loop-side : goal.invariant-loop-side
invariant-loop-side l = AreMarks l.classes l.side l.marks.items
