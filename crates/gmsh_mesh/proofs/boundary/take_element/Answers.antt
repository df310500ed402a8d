use Rattle.std.proofs.Common.{◌≡◌, ◌+◌, None, Ok, get_or, sym, subst, ◌∙◌}
use Rattle.gmsh_text.specs.declared.entities.Group.TheVariants.{Ungrouped}
use Rattle.gmsh_mesh.specs.Boundary.{SideElements}
use Rattle.gmsh_mesh.specs.Classes.{joined_tag}
use Rattle.gmsh_mesh.proofs.Marking.{class-skipped, class-taken}
use Rattle.gmsh_mesh.proofs.boundary.take_element.Goals as goal

pub returns-in_ok-tags : goal.returns-in_ok-tags
returns-in_ok-tags c =
    let class = get_or c.args.classes.now (c.args.count + c.args.element) 0 in
    class-taken c.args.classes.now c.args.count c.args.marks.now c.args.elements.now c.args.element c.args.tags.now c.requires.so_far
    c.requires.within c.requires.small c.if-marks-class.true (get_or c.args.elements.now.lines c.args.element 0) c.in_ok-tags.field-0
    (subst (λ (z : SideElements). joined_tag (get_or c.args.tags.now class None) (get_or z.groups c.args.element Ungrouped) (get_or z.lines c.args.element 0) ≡ Ok c.in_ok-tags.field-0)
    c.elements.view_is (sym c.joined_tag.ensures ∙ c.in_ok-tags.was))

pub returns-else-marks-class : goal.returns-else-marks-class
returns-else-marks-class c =
    class-skipped c.args.classes.now c.args.count c.args.marks.now c.args.elements.now c.args.element c.args.tags.now c.requires.so_far
    c.requires.within c.requires.small c.if-marks-class.false
