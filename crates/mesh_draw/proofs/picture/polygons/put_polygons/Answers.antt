use Rattle.std.proofs.Common.{ℕ, ◌<◌, sym, ap, subst}
use Rattle.mesh_decl.specs.Mesh.{set_count}
use Rattle.mesh_draw.specs.Picture.{polygon}
use Rattle.mesh_draw.proofs.picture.Points.{printed_more}
use Rattle.mesh_draw.proofs.picture.polygons.put_polygons.Goals as goal

pub set_size-cell-end-requires : goal.set_size-cell-end-requires
set_size-cell-end-requires c =
    subst (λ (s : ℕ). s < set_count c.args.mesh.now) (sym (ap (λ ends. ends.0) c.map_ends-cells.ensures))
    (c.is_in_range.ensures.maps c.args.shape.cells c.requires.plane.map).from

pub loop-cell-preserved : goal.loop-cell-preserved
loop-cell-preserved c =
    printed_more (polygon c.args.mesh.now c.args.shape c.args.frame c.args.fills.now) c.loop-cell.cell c.args.out.now.items c.loop-cell.out.items
    c.put_polygon.new.out.items c.loop-cell.invariant c.in_ok-put_polygon.ensures
