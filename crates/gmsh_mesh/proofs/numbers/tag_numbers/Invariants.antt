use Rattle.std.proofs.Common.{◌≡◌, take}
use Rattle.gmsh_mesh.specs.Numbers.{numbers as numbers_of}
use Rattle.gmsh_mesh.proofs.numbers.tag_numbers.Given as goal

abbrev pub invariant-loop-tag : goal.invariant-loop-tag
invariant-loop-tag l = l.numbers.items ≡ numbers_of (take l.tag-index l.tags)
