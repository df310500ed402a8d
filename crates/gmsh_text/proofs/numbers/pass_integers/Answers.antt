use Rattle.std.proofs.Common.{◌∙◌, Ok, ap, arith}
use Rattle.gmsh_text.specs.Parsing.{and_then}
use Rattle.gmsh_text.specs.Numbers.{skip_integer}
use Rattle.gmsh_text.proofs.Repeating.{done, more, refused, passed}
use Rattle.gmsh_text.proofs.numbers.pass_integers.Goals as goal

pub returns-in_err-read_integer : goal.returns-in_err-read_integer
returns-in_err-read_integer c =
    passed c.from_residual.result _ _ _ c.from_residual.ensures.1
    (c.loop.invariant ∙ refused skip_integer _ tt _ _ (omega arith) (ap (λ r. and_then r (λ _ v. Ok (tt, v))) c.in_err-read_integer.ensures))

pub loop-preserved : goal.loop-preserved
loop-preserved c =
    c.loop.invariant ∙ more skip_integer _ _ tt tt _ _ (omega arith) (ap (λ r. and_then r (λ _ v. Ok (tt, v))) c.in_ok-read_integer.ensures)

pub returns : goal.returns
returns c = c.loop.invariant ∙ done skip_integer _ tt _ (omega arith)
