use Rattle.gmsh_mesh.specs.Mesh.{MeshIs}
use Rattle.gmsh_mesh.proofs.Staging.{passed}
use Rattle.gmsh_mesh.proofs.Assembling.{no-nodes, no-elements, whole-mesh, are-low, are-places}
use Rattle.gmsh_mesh.proofs.mesh.build_mesh.Goals as goal

pub returns-in_err-x-clause-mesh : goal.returns-in_err-x-clause-mesh
returns-in_err-x-clause-mesh c =
    passed c.from_residual-in_err-x.result _ (λ m. m) (MeshIs c.args.text.now c.args.dim c.args.scale) c.from_residual-in_err-x.ensures.1
    (no-nodes c.args.text.now c.args.dim c.args.scale c.in_ok-choice.choice c.in_ok-choice.ensures c.in_ok-check_sizes.ensures _ c.in_err-x.ensures)

pub returns-in_err-cell-clause-mesh : goal.returns-in_err-cell-clause-mesh
returns-in_err-cell-clause-mesh c =
    passed c.from_residual-in_err-cell.result _ (λ m. m) (MeshIs c.args.text.now c.args.dim c.args.scale) c.from_residual-in_err-cell.ensures.1
    (no-elements c.args.text.now c.args.dim c.args.scale c.in_ok-choice.choice c.in_ok-choice.ensures c.in_ok-check_sizes.ensures
    (c.in_ok-x.field-0-0.items, c.in_ok-x.x.items) c.in_ok-x.ensures _ c.in_err-cell.ensures)

pub with_faces-requires-clause-fits : goal.with_faces-requires-clause-fits
with_faces-requires-clause-fits c =
    are-places c.args.text.now c.in_ok-choice.choice (c.in_ok-cell.field-0-0, (c.in_ok-cell.cell.items, c.in_ok-cell.elements.items)) c.requires.whole
    (are-low c.args.text.now c.args.dim c.in_ok-choice.choice.shape c.in_ok-check_sizes.ensures) c.in_ok-cell.ensures

pub returns-clause-mesh : goal.returns-clause-mesh
returns-clause-mesh c =
    whole-mesh c.args.text.now c.args.dim c.args.scale c.in_ok-choice.choice c.in_ok-choice.ensures c.in_ok-check_sizes.ensures
    (c.in_ok-x.field-0-0.items, c.in_ok-x.x.items) c.in_ok-x.ensures
    (c.in_ok-cell.field-0-0, (c.in_ok-cell.cell.items, c.in_ok-cell.elements.items)) c.in_ok-cell.ensures c.with_faces.result (λ m. m) c.with_faces.ensures.mesh
