use Rattle.std.proofs.Common.{◌≡◌, ◌++◌, map}
use Rattle.std.specs.List.{range_with_len, concat}
use Rattle.mesh_draw.specs.Text.{type_line}
use Rattle.mesh_draw.proofs.vtk_texts.grid.put_type_lines.Given as goal

abbrev pub invariant-loop : goal.invariant-loop
invariant-loop l =
    l.out.items ≡ l.initial.out.items ++ concat (map (λ cell. type_line l.kind) (range_with_len 0 l.counter))
