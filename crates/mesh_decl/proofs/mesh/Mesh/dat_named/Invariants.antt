use Rattle.mesh_decl.specs.Mesh.{dat_name}
use Rattle.mesh_decl.proofs.FirstNamed.{NoneBelow}
use Rattle.mesh_decl.proofs.mesh.Mesh.dat_named.Given as goal

abbrev pub invariant-loop-dat : goal.invariant-loop-dat
invariant-loop-dat l = NoneBelow l.dat (dat_name l.self) l.name
