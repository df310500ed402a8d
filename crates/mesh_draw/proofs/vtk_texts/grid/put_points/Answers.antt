use Rattle.std.proofs.Common.{◌≡◌, ℕ, ℤ, List, ◌++◌, codes, ap, ◌∙◌}
use Rattle.std.specs.List.{concat}
use Rattle.mesh_decl.specs.Mesh.{MeshValue, set_size, dat_dim, dat_values}
use Rattle.mesh_draw.specs.declared.shapes.shape.Shape.{Shape}
use Rattle.mesh_draw.specs.Text.{node_count, point_line, point_lines}
use Rattle.mesh_draw.proofs.vtk_texts.Sections.{section_put}
use Rattle.mesh_draw.proofs.vtk_texts.grid.put_points.Goals as goal

pub returns : goal.returns
returns c =
    let g : MeshValue = c.args.mesh.now in
    let s : Shape = c.args.shape in
    let before : List ℕ = c.put_count.new.out.items in
    let nodes : c.set_size-nodes.result ≡ node_count g s =
    c.set_size-nodes.ensures ∙ ap (λ (p : ℕ × ℕ). set_size g p.0) c.dat_shape-set.ensures in
    let dim : c.dat_shape-set.result.1 ≡ dat_dim g s.coords = ap (λ (p : ℕ × ℕ). p.1) c.dat_shape-set.ensures in
    section_put (codes "POINTS ") (codes " double\n") c.args.out.now.items before c.put_point_lines.new.out.items
    (point_line (dat_dim g s.coords) (dat_values g s.coords)) c.set_size-nodes.result (node_count g s) c.in_ok-put_count.ensures
    (c.in_ok-put_point_lines.ensures
    ∙ ap (λ (n : ℕ). before ++ concat (point_lines n c.dat_shape-set.result.1 c.dat_values-values.result.now)) nodes
    ∙ ap (λ (d : ℕ). before ++ concat (point_lines (node_count g s) d c.dat_values-values.result.now)) dim
    ∙ ap (λ (zs : List ℤ). before ++ concat (point_lines (node_count g s) (dat_dim g s.coords) zs)) c.dat_values-values.ensures)
    nodes
