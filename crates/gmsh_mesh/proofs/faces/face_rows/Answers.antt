use Rattle.std.proofs.Common.{◌*◌, ◌<◌, ◌^◌, ◌∙◌, ◌≤◌, ℕ, ap, arith, mul-le-mul_left}
use Rattle.gmsh_mesh.specs.declared.cell_sides.shape.Shape.{Shape}
use Rattle.gmsh_mesh.specs.Sides.{sides, side_nodes}
use Rattle.gmsh_mesh.specs.Arrays.{rows_of, cells_of, pairs_of}
use Rattle.gmsh_mesh.proofs.Facing.{all-small, has-nodes, no-more-than}
use Rattle.gmsh_mesh.proofs.Whole.{few}
use Rattle.gmsh_mesh.proofs.faces.face_rows.Goals as goal

fits : (count : ℕ) (s : Shape) → count < 2 ^ 28 → count * sides s < 2 ^ 31
fits count s l =
    let k : count * sides s ≤ count * 6 = mul-le-mul_left count (few s).few_sides in
    omega (arith, k, l)

pub returns-clause-small : goal.returns-clause-small
returns-clause-small c =
    let s = c.args.shape in
    let n = c.args.count * sides s in
    let low : n < 2 ^ 31 = fits c.args.count s c.requires.few in
    all-small c.args.sides.now c.args.mates.now (side_nodes s) n (sides s) c.requires.table c.requires.mates c.in_ok-faces.faces.inner.items c.in_ok-faces.faces.outer.items
    c.in_ok-faces.ensures low c.requires.small _
    (c.in_ok-face.ensures ∙ ap (λ k. rows_of c.args.sides.now k c.deref.result.now) c.side_nodes-width.ensures ∙ ap (rows_of c.args.sides.now (side_nodes s)) c.deref.ensures.value)
    (c.in_ok-fcell.ensures ∙ ap (λ k. pairs_of c.args.mates.now k c.deref-2.result.now) c.sides.ensures ∙ ap (pairs_of c.args.mates.now (sides s)) c.deref-2.ensures.value)
    (c.in_ok-bface.ensures ∙ ap (λ k. rows_of c.args.sides.now k c.deref-3.result.now) c.side_nodes-width.ensures ∙ ap (rows_of c.args.sides.now (side_nodes s)) c.deref-3.ensures.value)
    (c.in_ok-bcell.ensures ∙ ap (λ k. cells_of k c.deref-4.result.now) c.sides-2.ensures ∙ ap (cells_of (sides s)) c.deref-4.ensures.value)

pub returns-clause-few : goal.returns-clause-few
returns-clause-few c =
    let s = c.args.shape in
    no-more-than c.args.sides.now c.args.mates.now (side_nodes s) (c.args.count * sides s) (sides s) c.requires.table c.requires.mates c.in_ok-faces.faces.inner.items
    c.in_ok-faces.faces.outer.items c.in_ok-faces.ensures c.sides_are_of_faces.ensures c.in_ok-bcell.bcell.items
    (c.in_ok-bcell.ensures ∙ ap (λ k. cells_of k c.deref-4.result.now) c.sides-2.ensures ∙ ap (cells_of (sides s)) c.deref-4.ensures.value)

pub returns-clause-table : goal.returns-clause-table
returns-clause-table c =
    let s = c.args.shape in
    has-nodes c.args.sides.now c.args.mates.now (side_nodes s) (c.args.count * sides s) (sides s) c.requires.table c.requires.mates c.in_ok-faces.faces.inner.items
    c.in_ok-faces.faces.outer.items c.in_ok-faces.ensures (fits c.args.count s c.requires.few) c.in_ok-bface.bface.items c.in_ok-bcell.bcell.items
    (c.in_ok-bface.ensures ∙ ap (λ k. rows_of c.args.sides.now k c.deref-3.result.now) c.side_nodes-width.ensures ∙ ap (rows_of c.args.sides.now (side_nodes s)) c.deref-3.ensures.value)
    (c.in_ok-bcell.ensures ∙ ap (λ k. cells_of k c.deref-4.result.now) c.sides-2.ensures ∙ ap (cells_of (sides s)) c.deref-4.ensures.value)
