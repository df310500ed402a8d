use Rattle.std.proofs.Common.{ℕ, length, sym, ap, ◌∙◌}
use Rattle.std.proofs.lemmas.List.FromFn.{length-map-range_with_len}
use Rattle.mesh_decl.specs.Mesh.{map_dim, target}
use Rattle.mesh_draw.specs.Text.{nodes_of}
use Rattle.mesh_draw.proofs.vtk_texts.Sections.{number_line_put}
use Rattle.mesh_draw.proofs.vtk_texts.grid.put_cell.Goals as goal

pub returns : goal.returns
returns c =
    number_line_put c.args.out.now.items c.put_u64.new.out.items c.put_nodes.new.out.items c.extend_from_slice.new.self.items
    c.map_ends-nodes.result.2 (length (nodes_of c.args.mesh.now c.args.shape c.args.cell)) (nodes_of c.args.mesh.now c.args.shape c.args.cell)
    c.in_ok-put_u64.ensures.ok c.in_ok-put_nodes.ensures c.in_ok-extend_from_slice.ensures.items
    (ap (λ (ends : ℕ × ℕ × ℕ). ends.2) c.map_ends-nodes.ensures
    ∙ sym (length-map-range_with_len (target c.args.mesh.now c.args.shape.cells c.args.cell) 0 (map_dim c.args.mesh.now c.args.shape.cells)))
