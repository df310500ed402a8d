use Rattle.std.proofs.Common.{ℕ, codes, ap, ◌∙◌, ◌++◌}
use Rattle.mesh_draw.specs.Tree.{start_tag, end_tag}
use Rattle.mesh_draw.specs.Picture.{cell_count, drawing_attributes, polygons}
use Rattle.mesh_draw.proofs.picture.Whole.{element_put}
use Rattle.mesh_draw.proofs.picture.drawing.put_drawing.Goals as goal

pub returns : goal.returns
returns c =
    element_put c.args.out.now.items
    (start_tag (codes "svg") (drawing_attributes c.args.frame (cell_count c.args.mesh.now c.args.shape)))
    (end_tag (codes "svg")) c.put_drawing_start.new.out.items c.put_polygons.new.out.items c.put_end.new.out.items
    (polygons c.args.mesh.now c.args.shape c.args.frame c.args.fills.now) c.nodes_print_in_order.ensures
    (c.in_ok-put_drawing_start.ensures
    ∙ ap (λ (n : ℕ). c.args.out.now.items ++ start_tag (codes "svg") (drawing_attributes c.args.frame n)) c.requires.count)
    c.in_ok-put_polygons.ensures c.in_ok-put_end.ensures
