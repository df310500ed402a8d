use Rattle.std.proofs.Common.{ℕ, ◌<◌, sym, ap, subst}
use Rattle.mesh_decl.specs.Mesh.{set_count}
use Rattle.mesh_draw.specs.Text.{cell_line}
use Rattle.mesh_draw.proofs.vtk_texts.Sections.{line_more}
use Rattle.mesh_draw.proofs.vtk_texts.grid.put_cell_lines.Goals as goal

pub set_size-cell-end-requires : goal.set_size-cell-end-requires
set_size-cell-end-requires c =
    subst (λ (s : ℕ). s < set_count c.args.mesh.now) (sym (ap (λ ends. ends.0) c.map_ends-cells.ensures))
    (c.is_in_range.ensures.maps c.args.shape.cells c.requires.map).from

pub loop-cell-preserved : goal.loop-cell-preserved
loop-cell-preserved c =
    line_more (cell_line c.args.mesh.now c.args.shape) c.loop-cell.cell c.args.out.now.items c.loop-cell.out.items c.put_cell.new.out.items
    c.loop-cell.invariant c.in_ok-put_cell.ensures
