use Rattle.std.proofs.Common.{◌≡◌, ◌++◌, map}
use Rattle.std.specs.List.{range_with_len, concat}
use Rattle.mesh_draw.specs.Text.{cell_line}
use Rattle.mesh_draw.proofs.vtk_texts.grid.put_cell_lines.Given as goal

abbrev pub invariant-loop-cell : goal.invariant-loop-cell
invariant-loop-cell l = l.out.items ≡ l.initial.out.items ++ concat (map (cell_line l.mesh l.shape) (range_with_len 0 l.cell))
