use Rattle.std.proofs.Common.{◌*◌}
use Rattle.mesh_decl.specs.Mesh.{map_dim}
use Rattle.partition.specs.Named.{AreNamed}
use Rattle.partition.proofs.derived.owners_naming.Given as goal

abbrev pub invariant-loop-element : goal.invariant-loop-element
invariant-loop-element l = AreNamed l.mesh l.map l.owners (l.element * map_dim l.mesh l.map) l.filling
