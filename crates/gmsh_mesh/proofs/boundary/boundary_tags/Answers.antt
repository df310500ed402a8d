use Rattle.std.proofs.Common.{◌≡◌, ◌+◌, ◌++◌, ◌∙◌, ap, sym, subst, length}
use Rattle.gmsh_mesh.specs.SideMates.{AreSideClasses}
use Rattle.gmsh_mesh.specs.Boundary.{SideElements, TagsAre}
use Rattle.gmsh_mesh.specs.Classes.{AreMarks, AreTagsOf}
use Rattle.gmsh_mesh.specs.Stages.{Gives}
use Rattle.gmsh_mesh.proofs.Staging.{passed}
use Rattle.gmsh_mesh.proofs.Tagging.{refused-tags, given-tags}
use Rattle.gmsh_mesh.proofs.boundary.boundary_tags.Goals as goal

pub returns-in_err-tags : goal.returns-in_err-tags
returns-in_err-tags c =
    let es = c.args.elements.now in
    let n = c.args.count + length es.groups in
    let rows : c.deref.result.now ≡ c.args.boundary.now ++ es.nodes = c.deref.ensures.value ∙ c.in_ok-rows.ensures ∙ ap (λ (z : SideElements). c.args.boundary.now ++ z.nodes) c.elements.view_is in
    let classes : AreSideClasses (c.args.boundary.now ++ es.nodes) c.args.width n c.deref-3.result.now =
    subst (λ z. AreSideClasses (c.args.boundary.now ++ es.nodes) c.args.width n z) (sym c.deref-3.ensures.value)
    (subst (λ z. AreSideClasses z c.args.width n c.in_ok-classes.classes.items) rows
    (subst (λ (z : SideElements). AreSideClasses c.deref.result.now c.args.width (c.args.count + length z.groups) c.in_ok-classes.classes.items) c.elements.view_is c.in_ok-classes.ensures)) in
    let marks : AreMarks c.deref-3.result.now c.args.count c.deref-4.result.now =
    subst (λ z. AreMarks z c.args.count c.deref-4.result.now) (c.deref-2.ensures.value ∙ sym c.deref-3.ensures.value)
    (subst (λ z. AreMarks c.deref-2.result.now c.args.count z) (sym c.deref-4.ensures.value) c.in_ok-marks.ensures) in
    passed c.from_residual-in_err-tags.result _ (λ v. v.items) (TagsAre c.args.width c.args.count c.args.boundary.now es)
    c.from_residual-in_err-tags.ensures.1
    (refused-tags c.args.width c.args.count c.args.boundary.now es c.deref-3.result.now c.requires.boundary classes c.deref-4.result.now marks _ c.in_err-tags.ensures)

pub returns : goal.returns
returns c =
    let es = c.args.elements.now in
    let n = c.args.count + length es.groups in
    let rows : c.deref.result.now ≡ c.args.boundary.now ++ es.nodes = c.deref.ensures.value ∙ c.in_ok-rows.ensures ∙ ap (λ (z : SideElements). c.args.boundary.now ++ z.nodes) c.elements.view_is in
    let classes : AreSideClasses (c.args.boundary.now ++ es.nodes) c.args.width n c.deref-3.result.now =
    subst (λ z. AreSideClasses (c.args.boundary.now ++ es.nodes) c.args.width n z) (sym c.deref-3.ensures.value)
    (subst (λ z. AreSideClasses z c.args.width n c.in_ok-classes.classes.items) rows
    (subst (λ (z : SideElements). AreSideClasses c.deref.result.now c.args.width (c.args.count + length z.groups) c.in_ok-classes.classes.items) c.elements.view_is c.in_ok-classes.ensures)) in
    let marks : AreMarks c.deref-3.result.now c.args.count c.deref-4.result.now =
    subst (λ z. AreMarks z c.args.count c.deref-4.result.now) (c.deref-2.ensures.value ∙ sym c.deref-3.ensures.value)
    (subst (λ z. AreMarks c.deref-2.result.now c.args.count z) (sym c.deref-4.ensures.value) c.in_ok-marks.ensures) in
    given-tags c.args.width c.args.count c.args.boundary.now es c.deref-3.result.now c.requires.boundary classes c.deref-4.result.now marks c.in_ok-tags.tags.items
    c.side_tags.result (λ v. v.items) c.in_ok-tags.ensures
    (subst (λ z. Gives c.side_tags.result (λ v. v.items) (AreTagsOf c.deref-3.result.now c.args.count z)) c.deref-6.ensures.value
    (subst (λ z. Gives c.side_tags.result (λ v. v.items) (AreTagsOf z c.args.count c.deref-6.result.now)) (c.deref-5.ensures.value ∙ sym c.deref-3.ensures.value) c.side_tags.ensures))
