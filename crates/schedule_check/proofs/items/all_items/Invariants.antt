use Rattle.std.proofs.Common.{◌≡◌, ◌<◌, ℕ, length, get_or}
use Rattle.bound_program.specs.Values.{bound_of}
use Rattle.step_judge.specs.Marked.{no_item}
use Rattle.loop_plan.specs.Values.{plan_of}
use Rattle.schedule_check.specs.ItemMarks.{AreItemMarks}
use Rattle.schedule_check.proofs.items.all_items.Given as goal

abbrev pub invariant-loop-item : goal.invariant-loop-item
invariant-loop-item l = record {
  count : length l.items.items ≡ l.item;
  items : (k : ℕ) → k < l.item → AreItemMarks (bound_of l.bound) l.ranks (plan_of l.plan) k (get_or l.items.items k no_item);
}
