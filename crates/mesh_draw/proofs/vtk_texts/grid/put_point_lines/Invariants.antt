use Rattle.std.proofs.Common.{◌≡◌, ◌++◌, map}
use Rattle.std.specs.List.{range_with_len, concat}
use Rattle.mesh_draw.specs.Text.{point_line}
use Rattle.mesh_draw.proofs.vtk_texts.grid.put_point_lines.Given as goal

abbrev pub invariant-loop-node : goal.invariant-loop-node
invariant-loop-node l = l.out.items ≡ l.initial.out.items ++ concat (map (point_line l.dim l.values) (range_with_len 0 l.node))
