use Rattle.std.proofs.Common.{◌≡◌, ◌++◌, take}
use Rattle.std.specs.List.{flat_map}
use Rattle.mesh_draw.specs.Text.{field_array}
use Rattle.mesh_draw.proofs.vtk_texts.arrays.put_fields.Given as goal

abbrev pub invariant-loop-field : goal.invariant-loop-field
invariant-loop-field l = l.out.items ≡ l.initial.out.items ++ flat_map (field_array l.elements) (take l.field-index l.fields)
