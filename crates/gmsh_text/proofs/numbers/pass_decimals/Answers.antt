use Rattle.std.proofs.Common.{◌∙◌, Ok, ap, arith}
use Rattle.gmsh_text.specs.Parsing.{and_then}
use Rattle.gmsh_text.specs.Numbers.{skip_decimal}
use Rattle.gmsh_text.proofs.Repeating.{done, more, refused, passed}
use Rattle.gmsh_text.proofs.numbers.pass_decimals.Goals as goal

pub returns-in_err-read_decimal : goal.returns-in_err-read_decimal
returns-in_err-read_decimal c =
    passed c.from_residual.result _ _ _ c.from_residual.ensures.1
    (c.loop.invariant ∙ refused skip_decimal _ tt _ _ (omega arith) (ap (λ r. and_then r (λ _ v. Ok (tt, v))) c.in_err-read_decimal.ensures))

pub loop-preserved : goal.loop-preserved
loop-preserved c =
    c.loop.invariant ∙ more skip_decimal _ _ tt tt _ _ (omega arith) (ap (λ r. and_then r (λ _ v. Ok (tt, v))) c.in_ok-read_decimal.ensures)

pub returns : goal.returns
returns c = c.loop.invariant ∙ done skip_decimal _ tt _ (omega arith)
