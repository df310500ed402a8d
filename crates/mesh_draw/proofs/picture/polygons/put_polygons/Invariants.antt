use Rattle.std.proofs.Common.{◌≡◌, ◌++◌, map}
use Rattle.std.specs.List.{flat_map, range_with_len}
use Rattle.mesh_draw.specs.Tree.{printed}
use Rattle.mesh_draw.specs.Picture.{polygon}
use Rattle.mesh_draw.proofs.picture.polygons.put_polygons.Given as goal

abbrev pub invariant-loop-cell : goal.invariant-loop-cell
invariant-loop-cell l =
    l.out.items ≡ l.initial.out.items ++ flat_map printed (map (polygon l.mesh l.shape l.frame l.fills) (range_with_len 0 l.cell))
