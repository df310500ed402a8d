use Rattle.std.proofs.Common.{take}
use Rattle.mesh_decl.specs.Mesh.{AreElements}
use Rattle.mesh_decl.proofs.mesh.first_bad.Given as goal

abbrev pub invariant-loop-index : goal.invariant-loop-index
invariant-loop-index l = AreElements l.size (take l.index l.targets)
