use Rattle.gmsh_mesh.specs.Mates.{AreMatesSoFar}
use Rattle.gmsh_mesh.proofs.equal_keys.pairing.mates.Given as goal

abbrev pub invariant-loop-place : goal.invariant-loop-place
invariant-loop-place l = AreMatesSoFar l.keys l.place l.seen.items l.of.items
