use Rattle.std.proofs.Common.{◌≡◌, ◌<◌, ℕ, length}
use Rattle.schedule_steps.specs.Outline.{Outline}
use Rattle.step_orders.specs.Order.{IsColoured}
use Rattle.step_orders.specs.ElementRuns.{runs_of}
use Rattle.schedule_check.specs.Runs.{blocks_in, inner_in, runs_at}
use Rattle.schedule_check.proofs.plan_orders.site_runs.loop_runs.Given as goal

abbrev pub invariant-loop-rank : goal.invariant-loop-rank
invariant-loop-rank l = record {
  count : length l.runs.items ≡ l.rank;
  runs : (r : ℕ) → r < l.rank → (o : Outline) (k i : ℕ)
      → IsColoured o k i l.block (blocks_in l.plan.colours.items r) (inner_in l.plan.colours.items r)
      → runs_at l.runs.items r ≡ runs_of o l.group k i;
}
