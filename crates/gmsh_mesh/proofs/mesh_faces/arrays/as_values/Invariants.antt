use Rattle.std.proofs.Common.{◌≡◌, map, pos, take}
use Rattle.gmsh_mesh.proofs.mesh_faces.arrays.as_values.Given as goal

abbrev pub invariant-loop-at : goal.invariant-loop-at
invariant-loop-at l = l.values.items ≡ map pos (take l.at l.numbers)
