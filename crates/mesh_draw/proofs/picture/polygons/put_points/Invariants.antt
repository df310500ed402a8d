use Rattle.std.proofs.Common.{◌≡◌, ◌++◌, map}
use Rattle.std.specs.List.{range_with_len, join_with_byte}
use Rattle.mesh_decl.specs.Mesh.{target}
use Rattle.mesh_draw.specs.Picture.{point_text}
use Rattle.mesh_draw.proofs.picture.polygons.put_points.Given as goal

abbrev pub invariant-loop-place : goal.invariant-loop-place
invariant-loop-place l =
    l.out.items ≡ l.initial.out.items ++ join_with_byte 32
    (map (λ place. point_text l.frame l.values (target l.mesh l.shape.cells l.cell place)) (range_with_len 0 l.place))
