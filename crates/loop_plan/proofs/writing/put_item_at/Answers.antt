use Rattle.std.proofs.Common.{◌∙◌, ◌++◌, sym, ap, subst, ℕ, List}
use Rattle.op_num.specs.Lines.{line_of}
use Rattle.bound_program.specs.Values.{ItemValue, bound_of}
use Rattle.loop_plan.specs.Needs.{item_at}
use Rattle.loop_plan.specs.Exports.{AreDats}
use Rattle.loop_plan.specs.PlanText.{item_line}
use Rattle.loop_plan.proofs.Behind.{item_read, traced}
use Rattle.loop_plan.proofs.PlanWriting.{plan_read}
use Rattle.loop_plan.proofs.writing.put_item_at.Goals as goal

pub put_item-requires : goal.put_item-requires
put_item-requires c =
    subst (AreDats c.args.bound.now.mesh)
    (sym (c.as_slice-exchange.ensures.value ∙ plan_read c.args.plans.now c.args.item c.index-plans-item.result c.requires.plan)) c.requires.dats

pub returns : goal.returns
unfolding item_at
returns c =
    let b = bound_of c.args.bound.now in
    c.in_ok-put_item.ensures
    ∙ (ap (λ (z : ItemValue). c.args.out.now.items ++ line_of (item_line b.mesh c.args.item z c.as_slice-exchange.result.now))
    (item_read c.args.bound.now.trace.items c.args.item c.index.result.now (traced c.args.bound.now.trace.items c.args.item c.requires.item) c.index.ensures)
    ∙ ap (λ (z : List ℕ). c.args.out.now.items ++ line_of (item_line b.mesh c.args.item (item_at b c.args.item) z))
    (c.as_slice-exchange.ensures.value ∙ plan_read c.args.plans.now c.args.item c.index-plans-item.result c.requires.plan))
