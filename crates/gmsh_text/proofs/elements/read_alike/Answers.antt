use Rattle.std.proofs.Common.{◌∙◌, arith}
use Rattle.gmsh_text.specs.Reading.{element_4}
use Rattle.gmsh_text.proofs.Repeating.{done, more, stopped, passed_made}
use Rattle.gmsh_text.proofs.elements.read_alike.Goals as goal

pub returns-in_err-read_grouped : goal.returns-in_err-read_grouped
returns-in_err-read_grouped c =
    passed_made c.from_residual.result _ _ _ _ c.from_residual.ensures.1
    (stopped (element_4 c.args.kind c.args.group) _ _ _ _ _ c.loop.invariant (omega arith) c.in_err-read_grouped.ensures)

pub loop-preserved : goal.loop-preserved
loop-preserved c = c.loop.invariant ∙ more (element_4 c.args.kind c.args.group) _ _ _ _ _ _ (omega arith) c.in_ok-read_grouped.ensures

pub returns : goal.returns
returns c = c.loop.invariant ∙ done (element_4 c.args.kind c.args.group) _ _ _ (omega arith)
