use Rattle.std.proofs.Common.{◌≡◌, ◌++◌, map}
use Rattle.std.specs.List.{range_with_len}
use Rattle.mesh_decl.specs.Mesh.{target}
use Rattle.mesh_draw.specs.Text.{spaced}
use Rattle.mesh_draw.proofs.vtk_texts.grid.put_nodes.Given as goal

abbrev pub invariant-loop-place : goal.invariant-loop-place
invariant-loop-place l =
    l.out.items ≡ l.initial.out.items ++ spaced (map (target l.mesh l.shape.cells l.cell) (range_with_len 0 l.place))
