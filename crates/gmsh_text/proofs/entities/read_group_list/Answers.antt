use Rattle.std.proofs.Common.{◌∙◌, arith}
use Rattle.gmsh_text.specs.Sections.{entity_row}
use Rattle.gmsh_text.proofs.Repeating.{done, more, stopped, passed_seen}
use Rattle.gmsh_text.proofs.entities.read_group_list.Goals as goal

pub returns-in_err-add_entity : goal.returns-in_err-add_entity
returns-in_err-add_entity c =
    passed_seen c.from_residual.result _ _ _ _ c.from_residual.ensures.1
    (stopped entity_row _ _ _ _ _ c.loop.invariant (omega arith) c.in_err-add_entity.ensures)

pub loop-preserved : goal.loop-preserved
loop-preserved c = c.loop.invariant ∙ more entity_row _ _ _ _ _ _ (omega arith) c.in_ok-add_entity.ensures

pub returns : goal.returns
returns c = c.loop.invariant ∙ done entity_row _ _ _ (omega arith)
