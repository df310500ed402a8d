use Rattle.std.proofs.Common.{◌≡◌, ◌++◌, take}
use Rattle.gmsh_mesh.proofs.tag_places.joining.push_numbers.Given as goal

abbrev pub invariant-loop-number : goal.invariant-loop-number
invariant-loop-number l = l.all.items ≡ l.fn.all.items ++ take l.number-index l.numbers
