use Rattle.std.proofs.Common.{◌∙◌, arith}
use Rattle.gmsh_text.specs.Reading.{element_2}
use Rattle.gmsh_text.proofs.Repeating.{done, more, stopped, passed_got}
use Rattle.gmsh_text.proofs.elements.read_list.Goals as goal

pub returns-in_err-read_listed : goal.returns-in_err-read_listed
returns-in_err-read_listed c =
    passed_got c.from_residual-in_err-read_listed.result _ _ _ c.from_residual-in_err-read_listed.ensures.1
    (stopped element_2 _ _ _ _ _ c.loop.invariant (omega arith) c.in_err-read_listed.ensures)

pub loop-preserved : goal.loop-preserved
loop-preserved c = c.loop.invariant ∙ more element_2 _ _ _ _ _ _ (omega arith) c.in_ok-read_listed.ensures

pub returns : goal.returns
returns c = c.loop.invariant ∙ done element_2 _ _ _ (omega arith)
