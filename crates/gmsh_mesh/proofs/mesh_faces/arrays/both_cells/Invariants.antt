use Rattle.std.proofs.Common.{◌≡◌, take}
use Rattle.gmsh_mesh.specs.Arrays.{pairs_of}
use Rattle.gmsh_mesh.proofs.mesh_faces.arrays.both_cells.Given as goal

abbrev pub invariant-loop-at : goal.invariant-loop-at
invariant-loop-at l = l.cells.items ≡ pairs_of l.mates l.sides (take l.at l.places)
