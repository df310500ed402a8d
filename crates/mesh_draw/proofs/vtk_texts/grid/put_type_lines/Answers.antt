use Rattle.mesh_draw.specs.Text.{type_line}
use Rattle.mesh_draw.proofs.vtk_texts.Sections.{line_more}
use Rattle.mesh_draw.proofs.vtk_texts.grid.put_type_lines.Goals as goal

pub loop-preserved : goal.loop-preserved
loop-preserved c =
    line_more (λ cell. type_line c.args.kind) c.loop.counter c.args.out.now.items c.loop.out.items c.put_type.new.out.items
    c.loop.invariant c.in_ok-put_type.ensures
