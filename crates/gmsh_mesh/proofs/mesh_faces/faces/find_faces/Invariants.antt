use Rattle.gmsh_mesh.specs.FaceLists.{AreFaces}
use Rattle.gmsh_mesh.proofs.mesh_faces.faces.find_faces.Given as goal

abbrev pub invariant-loop-side : goal.invariant-loop-side
invariant-loop-side l = AreFaces l.mates l.side l.faces.inner.items l.faces.outer.items
