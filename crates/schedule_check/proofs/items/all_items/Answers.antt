use Rattle.std.proofs.Common.{List, arith}
use Rattle.std.proofs.lemmas.List.{length_push}
use Rattle.bound_program.specs.Values.{bound_of}
use Rattle.step_judge.specs.Item.{Item}
use Rattle.step_judge.specs.Marked.{no_item}
use Rattle.loop_plan.specs.Values.{plan_of}
use Rattle.schedule_check.specs.ItemMarks.{AreItemMarks}
use Rattle.schedule_check.proofs.PlaceReads.{one_more}
use Rattle.schedule_check.proofs.items.all_items.Goals as goal

pub loop-item-preserved : goal.loop-item-preserved
loop-item-preserved c =
    let xs : List Item = c.loop-item.items.items in
    let v : Item = c.in_ok-item_marks.field-0 in
    rw c.in_ok-push.ensures.items (record {
      count = omega (arith, length_push xs v, c.loop-item.invariant.count);
      items = one_more (λ a w. AreItemMarks (bound_of c.args.bound.now) c.args.ranks.now (plan_of c.args.plan.now) a w) no_item xs v c.loop-item.item
          c.loop-item.invariant.count c.in_ok-item_marks.ensures c.loop-item.invariant.items;
    })
