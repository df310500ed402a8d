use Rattle.mesh_decl.specs.Mesh.{map_name}
use Rattle.mesh_decl.proofs.FirstNamed.{NoneBelow}
use Rattle.mesh_decl.proofs.mesh.Mesh.map_named.Given as goal

abbrev pub invariant-loop-map : goal.invariant-loop-map
invariant-loop-map l = NoneBelow l.map (map_name l.self) l.name
