use Rattle.std.proofs.Common.{◌∙◌, ◌++◌, ap, length, arith, ℕ, List}
use Rattle.op_num.specs.Lines.{text_of_lines}
use Rattle.colouring.specs.declared.types.Colours.{Colours}
use Rattle.loop_plan.specs.PlanText.{site_lines}
use Rattle.loop_plan.proofs.writing.put_site_plan.Goals as goal

pub put_sites-requires-clause-same : goal.put_sites-requires-clause-same
put_sites-requires-clause-same c =
    omega (arith, ap (λ (z : List ℕ). length z) c.as_slice.ensures.value, ap (λ (z : List Colours). length z) c.as_slice-2.ensures.value, c.requires.count)

pub put_sites-requires-clause-few : goal.put_sites-requires-clause-few
put_sites-requires-clause-few c = omega (arith, ap (λ (z : List ℕ). length z) c.as_slice.ensures.value, c.requires.few)

pub returns : goal.returns
returns c =
    c.in_ok-put_sites.ensures
    ∙ (ap (λ (z : List ℕ). c.args.out.now.items ++ text_of_lines (site_lines c.args.site 0 z c.as_slice-2.result.now)) c.as_slice.ensures.value
    ∙ ap (λ (z : List Colours). c.args.out.now.items ++ text_of_lines (site_lines c.args.site 0 c.args.plan.now.places.items z)) c.as_slice-2.ensures.value)
