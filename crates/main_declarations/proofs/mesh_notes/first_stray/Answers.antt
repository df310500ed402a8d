use Rattle.std.proofs.Common.{◌∙◌, rules, arith}
use Rattle.std.proofs.lemmas.Grind.{common_steps}
use Rattle.main_declarations.proofs.Strays.{stray_next}
use Rattle.main_declarations.proofs.mesh_notes.first_stray.Goals as goal

pub loop-value-preserved : goal.loop-value-preserved
loop-value-preserved c = record {
  stray = stray_next c.args.size c.loop-value.index c.args.values.now c.loop-value.value-index _ c.is_element.result c.loop-value-test.true
      c.is_element.ensures (first_of (search rules, grind (arith, common_steps))) ∙ c.loop-value.invariant.stray;
  at = first_of (search rules, grind (arith, common_steps));
}
