use Rattle.std.proofs.Common.{arith}
use Rattle.gmsh_mesh.specs.Arrays.{cell_of}
use Rattle.gmsh_mesh.proofs.mesh_faces.Steps.{map-more, map-all}
use Rattle.gmsh_mesh.proofs.mesh_faces.arrays.cells_at.Goals as goal

pub loop-at-preserved : goal.loop-at-preserved
loop-at-preserved c = map-more c.args.places.now c.loop-at.at c.loop-at.cells.items _ (cell_of c.args.sides) (omega arith) c.loop-at.invariant c.in_ok-push.ensures.items

pub returns : goal.returns
returns c = map-all c.args.places.now c.loop-at.at c.loop-at.cells.items (cell_of c.args.sides) (omega arith) c.loop-at.invariant
