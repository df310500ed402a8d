use Rattle.std.proofs.Common.{◌≡◌, ◌∙◌, Ok, sym, ap, subst, length}
use Rattle.gmsh_mesh.specs.Sides.{AreSides}
use Rattle.gmsh_text.specs.Rows.{Rows}
use Rattle.gmsh_mesh.specs.Choice.{cell_table}
use Rattle.gmsh_mesh.specs.Faces.{MatesAre, AreFacesOf}
use Rattle.gmsh_mesh.specs.Small.{AreSmall}
use Rattle.gmsh_mesh.proofs.Facing.{small-sides}
use Rattle.gmsh_mesh.proofs.Assembling.{faced}
use Rattle.gmsh_mesh.proofs.mesh.with_faces.Goals as goal

pub face_rows-requires-clause-small : goal.face_rows-requires-clause-small
face_rows-requires-clause-small c =
    subst AreSmall (sym c.deref-3.ensures.value)
    (small-sides c.args.places.shape (length c.lines-lines.result.now) c.deref.result.now c.in_ok-sides.sides.items c.in_ok-sides.ensures
    (subst AreSmall (sym c.deref.ensures.value) c.requires.fits.small))

pub returns-clause-mesh : goal.returns-clause-mesh
returns-clause-mesh c =
    let t = c.args.text.now in
    let p = c.args.places in
    let s = p.shape in
    let own = c.lines-lines.result.now in
    let lines : own ≡ (cell_table s t.elements).lines = c.lines-lines.ensures ∙ ap (λ (r : Rows). r.lines) c.cells_of.ensures in
    let all = c.in_ok-sides.sides.items in
    let of = c.in_ok-mates.mates.items in
    let f = c.in_ok-faces.faces in
    let sides = subst (λ l. AreSides s (length l) p.cell.items all) lines
    (subst (λ z. AreSides s (length own) z all) c.deref.ensures.value c.in_ok-sides.ensures) in
    let mates = subst (λ l. MatesAre s l all (Ok of)) lines (subst (λ z. MatesAre s own z (Ok of)) c.deref-2.ensures.value c.in_ok-mates.ensures) in
    let faces = subst (λ l. AreFacesOf s (length l) all of f) lines
    (subst (λ z. AreFacesOf s (length own) all z f) c.deref-4.ensures.value
    (subst (λ z. AreFacesOf s (length own) z c.deref-4.result.now f) c.deref-3.ensures.value c.in_ok-faces.ensures.faces)) in
    faced t p.dim s p.x.items p.cell.items p.elements.items all sides of mates f faces c.with_tags.result (λ m. m) c.with_tags.ensures.mesh
