use Rattle.std.proofs.Common.{ap, ◌∙◌}
use Rattle.std.specs.Fmt.{decimal}
use Rattle.mesh_draw.specs.Frame.{pixels}
use Rattle.mesh_draw.specs.Picture.{view_box, line_width}
use Rattle.mesh_draw.proofs.picture.Whole.{view_same}
use Rattle.mesh_draw.proofs.picture.drawing.put_drawing_start.Goals as goal

pub returns : goal.returns
returns c =
    c.in_ok-put_view.ensures
    ∙ view_same c.args.out.now.items c.deref.result.now (decimal (pixels c.args.frame c.args.frame.across))
    c.deref-2.result.now (decimal (pixels c.args.frame c.args.frame.up)) c.deref-3.result.now (view_box c.args.frame)
    c.line_width.result.now (line_width c.args.cells)
    (c.deref.ensures.value ∙ c.in_ok-width.ensures ∙ ap decimal c.pixels.ensures.value)
    (c.deref-2.ensures.value ∙ c.in_ok-height.ensures ∙ ap decimal c.pixels-2.ensures.value)
    (c.deref-3.ensures.value ∙ c.in_ok-shown.ensures) c.line_width.ensures
