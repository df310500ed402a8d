use Rattle.std.proofs.Common.{◌≡◌, take}
use Rattle.gmsh_mesh.specs.Arrays.{rows_of}
use Rattle.gmsh_mesh.proofs.mesh_faces.arrays.rows_at.Given as goal

abbrev pub invariant-loop-at : goal.invariant-loop-at
invariant-loop-at l = l.all.items ≡ rows_of l.rows l.width (take l.at l.places)
