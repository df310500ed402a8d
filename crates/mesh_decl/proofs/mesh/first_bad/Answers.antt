use Rattle.std.proofs.Common.{◌≡◌, get_or, pos, true, rules, w32, FitsSigned, sym, ◌∙◌}
use Rattle.std.proofs.lemmas.Int.{to_z-of_z}
use Rattle.std.proofs.lemmas.List.Elements.{All-more}
use Rattle.mesh_decl.specs.Mesh.{is_element}
use Rattle.mesh_decl.proofs.Targets.{bad_here}
use Rattle.mesh_decl.proofs.mesh.first_bad.Goals as goal

pub returns-then-not-is_element-clause-bad : goal.returns-then-not-is_element-clause-bad
returns-then-not-is_element-clause-bad c =
    let fits : FitsSigned w32 (get_or c.args.targets.now c.loop-index.index (pos 0)) = search rules in
    bad_here c.args.size c.loop-index.index c.args.targets.now c.loop-index.invariant c.loop-index-test.true (sym (rw (to_z-of_z w32 _ fits) at c.is_element.ensures) ∙ c.if-not-is_element.true)

pub loop-index-preserved : goal.loop-index-preserved
loop-index-preserved c =
    let fits : FitsSigned w32 (get_or c.args.targets.now c.loop-index.index (pos 0)) = search rules in
    All-more (λ t. is_element c.args.size t ≡ true) c.args.targets.now c.loop-index.index (pos 0) c.loop-index-test.true
    c.loop-index.invariant (sym (rw (to_z-of_z w32 _ fits) at c.is_element.ensures) ∙ c.if-not-is_element.false)
