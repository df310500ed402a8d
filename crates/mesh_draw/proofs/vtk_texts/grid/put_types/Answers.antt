use Rattle.std.proofs.Common.{◌≡◌, ℕ, ◌++◌, map, codes, ap, ◌∙◌}
use Rattle.std.specs.List.{range_with_len, concat}
use Rattle.mesh_decl.specs.Mesh.{MeshValue, set_size}
use Rattle.mesh_draw.specs.declared.shapes.shape.Shape.{Shape}
use Rattle.mesh_draw.specs.Text.{cell_count, type_line}
use Rattle.mesh_draw.proofs.vtk_texts.Sections.{section_put}
use Rattle.mesh_draw.proofs.vtk_texts.grid.put_types.Goals as goal

pub returns : goal.returns
returns c =
    let g : MeshValue = c.args.mesh.now in
    let s : Shape = c.args.shape in
    let cells : c.set_size-cells.result ≡ cell_count g s =
    c.set_size-cells.ensures ∙ ap (λ (ends : ℕ × ℕ × ℕ). set_size g ends.0) c.map_ends-from.ensures in
    section_put (codes "CELL_TYPES ") (codes "\n") c.args.out.now.items c.put_count.new.out.items c.put_type_lines.new.out.items
    (λ cell. type_line s.kind) c.set_size-cells.result (cell_count g s) c.in_ok-put_count.ensures
    (c.in_ok-put_type_lines.ensures
    ∙ ap (λ (n : ℕ). c.put_count.new.out.items ++ concat (map (λ (cell : ℕ). type_line s.kind) (range_with_len 0 n))) cells)
    cells
