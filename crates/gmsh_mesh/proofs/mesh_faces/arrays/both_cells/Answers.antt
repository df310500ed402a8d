use Rattle.std.proofs.Common.{arith}
use Rattle.gmsh_mesh.specs.Arrays.{pair_of}
use Rattle.gmsh_mesh.proofs.mesh_faces.Steps.{flat-more, flat-all}
use Rattle.gmsh_mesh.proofs.mesh_faces.arrays.both_cells.Goals as goal

pub loop-at-preserved : goal.loop-at-preserved
loop-at-preserved c =
    flat-more c.args.places.now c.loop-at.at c.loop-at.cells.items _ (pair_of c.args.mates.now c.args.sides) (omega arith) c.loop-at.invariant c.in_ok-push_pair.ensures

pub returns : goal.returns
returns c = flat-all c.args.places.now c.loop-at.at c.loop-at.cells.items (pair_of c.args.mates.now c.args.sides) (omega arith) c.loop-at.invariant
