use Rattle.std.proofs.Common.{◌≡◌, [], drop}
use Rattle.gmsh_mesh.specs.Coordinates.{places_behind}
use Rattle.gmsh_mesh.proofs.coordinates.coordinates.Given as goal

abbrev pub invariant-loop-at : goal.invariant-loop-at
invariant-loop-at l = places_behind l.dim l.scale [] l.points ≡ places_behind l.dim l.scale l.all.items (drop l.at l.points)
