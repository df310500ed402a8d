use Rattle.gmsh_mesh.proofs.mesh_faces.Counting.{all-sides}
use Rattle.gmsh_mesh.proofs.mesh_faces.faces.sides_are_of_faces.Goals as goal

pub returns : goal.returns
returns c mates firsts alone n m f = all-sides mates n m firsts alone f
