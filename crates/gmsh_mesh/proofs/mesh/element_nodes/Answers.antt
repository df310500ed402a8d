use Rattle.std.proofs.Common.{◌≡◌}
use Rattle.gmsh_mesh.specs.Sides.{nodes, side_nodes}
use Rattle.gmsh_mesh.specs.Stages.{Both}
use Rattle.gmsh_mesh.specs.Choice.{one_type, cell_table, side_table}
use Rattle.gmsh_mesh.specs.Mesh.{RowsAre}
use Rattle.gmsh_mesh.proofs.Staging.{side-by-side}
use Rattle.gmsh_mesh.proofs.Whole.{cells-whole, sides-whole}
use Rattle.gmsh_mesh.proofs.Assembling.{as-is, rows-given, is-table, some-nodes, some-corners}
use Rattle.gmsh_mesh.proofs.mesh.element_nodes.Goals as goal

pub row_nodes-cell-requires-clause-table : goal.row_nodes-cell-requires-clause-table
row_nodes-cell-requires-clause-table c =
    let es = c.args.text.now.elements in
    let s = c.args.choice.shape in
    is-table c.cells_of-cells.result.now (cell_table s es) c.nodes.result (nodes s) c.cells_of-cells.ensures c.nodes.ensures (some-nodes s)
    (cells-whole s es c.requires.whole) c.requires.cells

pub row_nodes-element-requires-clause-table : goal.row_nodes-element-requires-clause-table
row_nodes-element-requires-clause-table c =
    let es = c.args.text.now.elements in
    let s = c.args.choice.shape in
    is-table c.sides_of-elements.result.now (side_table s es) c.side_nodes.result (side_nodes s) c.sides_of-elements.ensures c.side_nodes.ensures (some-corners s)
    (sides-whole s es c.requires.whole) c.requires.elements

pub returns : goal.returns
returns c =
    let t = c.args.text.now in
    let s = c.args.choice.shape in
    let cells = RowsAre t (cell_table s t.elements) (nodes s) in
    let likes = RowsAre t (side_table s t.elements) (side_nodes s) in
    let cell = rows-given c.row_nodes-cell.result (λ v. v.items) t c.cells_of-cells.result.now (cell_table s t.elements) c.nodes.result (nodes s)
    c.cells_of-cells.ensures c.nodes.ensures c.row_nodes-cell.ensures in
    let like = rows-given c.row_nodes-element.result (λ v. v.items) t c.sides_of-elements.result.now (side_table s t.elements) c.side_nodes.result (side_nodes s)
    c.sides_of-elements.ensures c.side_nodes.ensures c.row_nodes-element.ensures in
    side-by-side (λ u. u) (λ q. (q.0.items, q.1.items)) (λ r. r ≡ one_type c.args.choice.other) (Both cells likes)
    c.check_types.result c.both.result c.both-2.result c.both-2.ensures
    (as-is c.check_types.result (λ r. r ≡ one_type c.args.choice.other) c.check_types.ensures)
    (side-by-side (λ v. v.items) (λ v. v.items) cells likes c.row_nodes-cell.result c.row_nodes-element.result c.both.result c.both.ensures cell like)
