use Rattle.std.proofs.Common.{◌≡◌, ℕ, ◌+◌, ◌*◌, List, ◌++◌, length, codes, sym, ap, ◌∙◌}
use Rattle.std.specs.Fmt.{decimal}
use Rattle.std.proofs.lemmas.List.FromFn.{length-map-range_with_len}
use Rattle.mesh_decl.specs.Mesh.{MeshValue, set_size, map_dim, target}
use Rattle.mesh_draw.specs.declared.shapes.shape.Shape.{Shape}
use Rattle.mesh_draw.specs.Text.{nodes_of, cell_count, cell_line, cell_numbers}
use Rattle.mesh_draw.proofs.vtk_texts.Sections.{section_put, rest_put, sum_of_same}
use Rattle.mesh_draw.proofs.vtk_texts.grid.put_cells.Goals as goal

pub returns : goal.returns
returns c =
    let g : MeshValue = c.args.mesh.now in
    let s : Shape = c.args.shape in
    let old : List ℕ = c.args.out.now.items in
    let count : ℕ = c.set_size-cells.result in
    let cells : count ≡ cell_count g s =
    c.set_size-cells.ensures ∙ ap (λ (ends : ℕ × ℕ × ℕ). set_size g ends.0) c.map_ends-from.ensures in
    let nodes : c.map_ends-from.result.2 ≡ map_dim g s.cells = ap (λ (ends : ℕ × ℕ × ℕ). ends.2) c.map_ends-from.ensures in
    let sum : cell_numbers g s ≡ cell_count g s * (1 + map_dim g s.cells) =
    sum_of_same (λ cell. 1 + length (nodes_of g s cell)) (1 + map_dim g s.cells) 0 (cell_count g s)
    (λ cell. ap (λ (n : ℕ). 1 + n) (length-map-range_with_len (target g s.cells cell) 0 (map_dim g s.cells))) in
    let same : count * (1 + c.map_ends-from.result.2) ≡ cell_numbers g s =
    ap (λ (n : ℕ). n * (1 + c.map_ends-from.result.2)) cells ∙ ap (λ (n : ℕ). cell_count g s * (1 + n)) nodes ∙ sym sum in
    section_put (codes "CELLS ") (codes " " ++ decimal (cell_numbers g s) ++ codes "\n") old c.put_sum.new.out.items
    c.put_cell_lines.new.out.items (cell_line g s) count (cell_count g s)
    (rest_put (codes "CELLS ") (codes " " ++ decimal (cell_numbers g s) ++ codes "\n") old c.put_count.new.out.items c.put_sum.new.out.items
    count c.in_ok-put_count.ensures
    (c.in_ok-put_sum.ensures ∙ ap (λ (n : ℕ). c.put_count.new.out.items ++ (codes " " ++ decimal n ++ codes "\n")) same))
    c.in_ok-put_cell_lines.ensures cells
