use Rattle.std.proofs.Common.{◌+◌, ◌*◌}
use Rattle.mesh_decl.specs.Mesh.{map_dim}
use Rattle.partition.specs.Named.{AreNamed}
use Rattle.partition.proofs.derived.push_owner.Given as goal

abbrev pub invariant-loop-place : goal.invariant-loop-place
invariant-loop-place l = AreNamed l.mesh l.map l.owners (l.element * map_dim l.mesh l.map + l.place) l.filling
