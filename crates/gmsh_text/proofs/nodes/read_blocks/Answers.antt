use Rattle.std.proofs.Common.{◌∙◌, arith}
use Rattle.gmsh_text.specs.Reading.{node_block}
use Rattle.gmsh_text.proofs.Repeating.{done, more, stopped, passed_got}
use Rattle.gmsh_text.proofs.nodes.read_blocks.Goals as goal

pub returns-in_err-read_block : goal.returns-in_err-read_block
returns-in_err-read_block c =
    passed_got c.from_residual-in_err-read_block.result _ _ _ c.from_residual-in_err-read_block.ensures.1
    (stopped node_block _ _ _ _ _ c.loop.invariant (omega arith) c.in_err-read_block.ensures)

pub loop-preserved : goal.loop-preserved
loop-preserved c = c.loop.invariant ∙ more node_block _ _ _ _ _ _ (omega arith) c.in_ok-read_block.ensures

pub returns : goal.returns
returns c = c.loop.invariant ∙ done node_block _ _ _ (omega arith)
