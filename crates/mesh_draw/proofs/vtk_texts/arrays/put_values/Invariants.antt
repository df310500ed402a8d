use Rattle.std.proofs.Common.{◌≡◌, ◌++◌, take}
use Rattle.std.specs.List.{flat_map}
use Rattle.mesh_draw.specs.Text.{value_line}
use Rattle.mesh_draw.proofs.vtk_texts.arrays.put_values.Given as goal

abbrev pub invariant-loop-number : goal.invariant-loop-number
invariant-loop-number l = l.out.items ≡ l.initial.out.items ++ flat_map value_line (take l.number-index l.numbers)
