use Rattle.gmsh_mesh.specs.Classes.{AreClassTags}
use Rattle.gmsh_mesh.proofs.boundary.class_tags.Given as goal

abbrev pub invariant-loop-element : goal.invariant-loop-element
invariant-loop-element l = AreClassTags l.classes l.count l.elements.groups l.element l.marks l.tags.items
