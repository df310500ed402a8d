use Rattle.std.proofs.Common.{◌∙◌, sym, ap, subst}
use Rattle.gmsh_mesh.specs.Faces.{FaceArrays}
use Rattle.gmsh_mesh.specs.Mesh.{Arrays}
use Rattle.gmsh_mesh.specs.Small.{AreSmall}
use Rattle.gmsh_mesh.proofs.convert.put_arrays.Goals as goal

pub values_of-requires-4 : goal.values_of-requires-4
values_of-requires-4 c =
    subst AreSmall (sym (c.deref-4.ensures.value ∙ ap (λ (f : FaceArrays). f.bface) c.faces.view_is ∙ ap (λ (m : Arrays). m.faces.bface) c.mesh.view_is))
    c.requires.small.faces.bface
