use Rattle.std.proofs.Common.{ℕ, List, length, codes, ap, ◌∙◌, ◌++◌}
use Rattle.mesh_draw.specs.Tree.{start_tag, end_tag}
use Rattle.mesh_draw.specs.Picture.{whole_attributes, title_of, drawing, labels_from}
use Rattle.mesh_draw.proofs.picture.Whole.{whole_put}
use Rattle.mesh_draw.proofs.picture.drawing.picture.Goals as goal

pub returns : goal.returns
returns c =
    let start : List ℕ = start_tag (codes "svg") (whole_attributes c.frame_in-frame.result (length c.args.labels.now)) in
    record {
      frame = c.frame_in-frame.result;
      fits = c.frame_in-frame.ensures;
      tree = whole_put start (end_tag (codes "svg")) c.put_whole_start.new.out.items c.put_title.new.out.items c.put_drawing.new.out.items
          c.put_labels.new.out.items c.put_end.new.out.items (title_of c.args.title.now)
          (drawing c.args.mesh.now c.args.shape c.frame_in-frame.result c.args.fills.now)
          (labels_from c.frame_in-frame.result 0 c.args.labels.now) c.nodes_print_in_order.ensures
          (c.in_ok-put_whole_start.ensures ∙ ap (λ (t : List ℕ). t ++ start) c.new-out.ensures.items)
          c.in_ok-put_title.ensures c.in_ok-put_drawing.ensures c.in_ok-put_labels.ensures c.in_ok-put_end.ensures;
    }
