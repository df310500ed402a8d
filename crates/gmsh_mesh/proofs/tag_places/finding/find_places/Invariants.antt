use Rattle.std.proofs.Common.{◌-◌}
use Rattle.gmsh_mesh.specs.Places.{AreFound}
use Rattle.gmsh_mesh.proofs.tag_places.finding.find_places.Given as goal

abbrev pub invariant-loop-place : goal.invariant-loop-place
invariant-loop-place l = AreFound l.of l.from (l.place - l.from) l.found.items
