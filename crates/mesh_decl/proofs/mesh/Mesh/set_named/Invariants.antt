use Rattle.mesh_decl.specs.Mesh.{set_name}
use Rattle.mesh_decl.proofs.FirstNamed.{NoneBelow}
use Rattle.mesh_decl.proofs.mesh.Mesh.set_named.Given as goal

abbrev pub invariant-loop-set : goal.invariant-loop-set
invariant-loop-set l = NoneBelow l.set (set_name l.self) l.name
