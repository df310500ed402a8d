use Rattle.std.proofs.Common.{◌≡◌, ◌∙◌, Ok, Err, ap, arith}
use Rattle.op_num.specs.Cut.{Uncut}
use Rattle.gmsh_text.specs.declared.refusal.TextRefusal.{TextRefusal}
use Rattle.gmsh_text.specs.Groups.{Grouped}
use Rattle.gmsh_text.specs.Parsing.{and_then}
use Rattle.gmsh_text.specs.Sections.{entity, skip_entity}
use Rattle.gmsh_text.proofs.Repeating.{done, more, refused, passed}
use Rattle.gmsh_text.proofs.entities.pass_entities.Goals as goal

passes : (u v : Uncut) (e : Grouped) → entity u ≡ Ok (e, v) → skip_entity tt u ≡ Ok (tt, v)
unfolding skip_entity
passes u v e h = ap (λ r. and_then r (λ _ w. Ok (tt, w))) h

fails : (u : Uncut) (e : TextRefusal) → entity u ≡ Err e → skip_entity tt u ≡ Err e
unfolding skip_entity
fails u e h = ap (λ r. and_then r (λ _ w. Ok (tt, w))) h

pub returns-in_err-read_entity : goal.returns-in_err-read_entity
returns-in_err-read_entity c =
    passed c.from_residual.result _ _ _ c.from_residual.ensures.1
    (c.loop.invariant ∙ refused skip_entity _ tt _ _ (omega arith) (fails _ _ c.in_err-read_entity.ensures))

pub loop-preserved : goal.loop-preserved
loop-preserved c = c.loop.invariant ∙ more skip_entity _ _ tt tt _ _ (omega arith) (passes _ _ _ c.in_ok-read_entity.ensures)

pub returns : goal.returns
returns c = c.loop.invariant ∙ done skip_entity _ tt _ (omega arith)
