use Rattle.gmsh_mesh.specs.Places.{AreHolders}
use Rattle.gmsh_mesh.proofs.tag_places.finding.class_holders.Given as goal

abbrev pub invariant-loop-place : goal.invariant-loop-place
invariant-loop-place l = AreHolders l.of l.place l.holders.items
