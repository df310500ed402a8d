use Rattle.std.proofs.Common.{◌∙◌, arith}
use Rattle.gmsh_text.specs.Sections.{skip_point}
use Rattle.gmsh_text.proofs.Repeating.{done, more, refused, passed}
use Rattle.gmsh_text.proofs.entities.pass_points.Goals as goal

pub returns-in_err-pass_point : goal.returns-in_err-pass_point
returns-in_err-pass_point c =
    passed c.from_residual.result _ _ _ c.from_residual.ensures.1
    (c.loop.invariant ∙ refused skip_point _ tt _ _ (omega arith) c.in_err-pass_point.ensures)

pub loop-preserved : goal.loop-preserved
loop-preserved c = c.loop.invariant ∙ more skip_point _ _ tt tt _ _ (omega arith) c.in_ok-pass_point.ensures

pub returns : goal.returns
returns c = c.loop.invariant ∙ done skip_point _ tt _ (omega arith)
