use Rattle.std.proofs.Common.{◌∙◌, arith}
use Rattle.gmsh_text.specs.Reading.{tag_row}
use Rattle.gmsh_text.proofs.Repeating.{done, more, stopped, passed_made}
use Rattle.gmsh_text.proofs.nodes.read_tags.Goals as goal

pub returns-in_err-read_node_tag : goal.returns-in_err-read_node_tag
returns-in_err-read_node_tag c =
    passed_made c.from_residual.result _ _ _ _ c.from_residual.ensures.1
    (stopped tag_row _ _ _ _ _ c.loop.invariant (omega arith) c.in_err-read_node_tag.ensures)

pub loop-preserved : goal.loop-preserved
loop-preserved c = c.loop.invariant ∙ more tag_row _ _ _ _ _ _ (omega arith) c.in_ok-read_node_tag.ensures

pub returns : goal.returns
returns c = c.loop.invariant ∙ done tag_row _ _ _ (omega arith)
