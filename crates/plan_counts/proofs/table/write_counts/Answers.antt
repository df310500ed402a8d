use Rattle.std.proofs.Common.{◌++◌, ◌∙◌, ap}
use Rattle.std.specs.List.{flat_map}
use Rattle.bound_program.specs.Values.{bound_of}
use Rattle.loop_plan.specs.Values.{plan_of}
use Rattle.plan_counts.specs.Table.{total_fields, loops_from, row_text, head_text, legend_text}
use Rattle.plan_counts.proofs.table.write_counts.Goals as goal

pub returns : goal.returns
returns c =
    let b = bound_of c.args.bound.now in
    let ms = c.args.ranks.now in
    let p = plan_of c.args.plan.now in
    let plain = c.args.plain in
    let lines = flat_map (row_text plain) (loops_from b ms p 0 b.sites) in
    let head = c.in_ok-put_head.ensures ∙ ap (λ z. z ++ head_text plain) c.new-out.ensures.items in
    let behind_lines = c.in_ok-totals.ensures.lines ∙ ap (λ z. z ++ lines) head in
    let fields = c.in_ok-fields.ensures ∙ ap total_fields c.in_ok-totals.ensures.totals in
    let behind_sums = c.in_ok-put_row.ensures ∙ ap (λ z. z ++ row_text plain c.in_ok-fields.fields) behind_lines ∙ ap (λ f. head_text plain ++ lines ++ row_text plain f) fields in
    c.in_ok-put_legend.ensures ∙ ap (λ z. z ++ legend_text plain) behind_sums
