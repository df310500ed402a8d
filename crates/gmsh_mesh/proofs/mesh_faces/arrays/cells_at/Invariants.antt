use Rattle.std.proofs.Common.{◌≡◌, take}
use Rattle.gmsh_mesh.specs.Arrays.{cells_of}
use Rattle.gmsh_mesh.proofs.mesh_faces.arrays.cells_at.Given as goal

abbrev pub invariant-loop-at : goal.invariant-loop-at
invariant-loop-at l = l.cells.items ≡ cells_of l.sides (take l.at l.places)
