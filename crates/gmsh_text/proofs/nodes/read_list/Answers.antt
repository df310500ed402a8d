use Rattle.std.proofs.Common.{◌∙◌, arith}
use Rattle.gmsh_text.specs.Reading.{node}
use Rattle.gmsh_text.proofs.Repeating.{done, more, stopped, passed_got}
use Rattle.gmsh_text.proofs.nodes.read_list.Goals as goal

pub returns-in_err-read_node : goal.returns-in_err-read_node
returns-in_err-read_node c =
    passed_got c.from_residual-in_err-read_node.result _ _ _ c.from_residual-in_err-read_node.ensures.1
    (stopped node _ _ _ _ _ c.loop.invariant (omega arith) c.in_err-read_node.ensures)

pub loop-preserved : goal.loop-preserved
loop-preserved c = c.loop.invariant ∙ more node _ _ _ _ _ _ (omega arith) c.in_ok-read_node.ensures

pub returns : goal.returns
returns c = c.loop.invariant ∙ done node _ _ _ (omega arith)
