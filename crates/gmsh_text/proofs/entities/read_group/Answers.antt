use Rattle.std.proofs.Common.{◌≡◌, ℤ, ◌∙◌, Ok, Err, sym, ap, arith, rules, w32, FitsSigned}
use Rattle.std.proofs.lemmas.Int.{to_z-of_z}
use Rattle.op_num.specs.Cut.{Uncut}
use Rattle.gmsh_text.specs.declared.refusal.TextRefusal.{TextRefusal}
use Rattle.gmsh_text.specs.declared.entities.Group.{Group}
use Rattle.gmsh_text.specs.Values.{joined}
use Rattle.gmsh_text.specs.Parsing.{and_then}
use Rattle.gmsh_text.specs.Numbers.{integer}
use Rattle.gmsh_text.specs.Sections.{group_row}
use Rattle.gmsh_text.proofs.Repeating.{done, more, refused, passed}
use Rattle.gmsh_text.proofs.entities.read_group.Goals as goal

joins : (g h : Group) (u v : Uncut) (z : ℤ) → integer u ≡ Ok (z, v) → h ≡ joined g z → group_row g u ≡ Ok (h, v)
unfolding group_row
joins g h u v z k e = ap (λ r. and_then r (λ y w. Ok (joined g y, w))) k ∙ ap (λ x. Ok (x, v)) (sym e)

fails : (g : Group) (u : Uncut) (e : TextRefusal) → integer u ≡ Err e → group_row g u ≡ Err e
unfolding group_row
fails g u e h = ap (λ r. and_then r (λ y w. Ok (joined g y, w))) h

pub returns-in_err-tag : goal.returns-in_err-tag
returns-in_err-tag c =
    passed c.from_residual-in_err-tag.result _ _ _ c.from_residual-in_err-tag.ensures.1
    (c.loop.invariant ∙ refused group_row _ _ _ _ (omega arith) (fails _ _ _ c.in_err-tag.ensures))

pub loop-preserved : goal.loop-preserved
loop-preserved c =
    let fits : FitsSigned w32 c.in_ok-tag.tag = search rules in
    c.loop.invariant
    ∙ more group_row _ _ _ _ _ _ (omega arith)
    (joins _ _ _ _ _ c.in_ok-tag.ensures (c.join-group.ensures ∙ ap (joined c.loop.group) (to_z-of_z w32 c.in_ok-tag.tag fits)))

pub returns : goal.returns
returns c = c.loop.invariant ∙ done group_row _ _ _ (omega arith)
