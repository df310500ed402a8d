use Rattle.gmsh_mesh.proofs.Whole.{all-counted}
use Rattle.gmsh_mesh.proofs.laws.faces_are_all_sides.Goals as goal

pub returns : goal.returns
returns c bytes dim scale m h = all-counted c.sides_are_of_faces.ensures c.elements_are_whole.ensures bytes dim scale m h
