use Rattle.gmsh_mesh.proofs.OneMesh.{arrays-one, comes-one}
use Rattle.gmsh_mesh.proofs.laws.one_outcome.Goals as goal

pub returns-clause-mesh : goal.returns-clause-mesh
returns-clause-mesh c bytes dim scale a b h k = arrays-one bytes dim scale a b h k

pub returns-clause-texts : goal.returns-clause-texts
returns-clause-texts c bytes dim scale a b h k = comes-one bytes dim scale a b h k
