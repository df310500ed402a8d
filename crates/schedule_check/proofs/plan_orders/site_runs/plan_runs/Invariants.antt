use Rattle.std.proofs.Common.{◌≡◌, length}
use Rattle.schedule_check.specs.Runs.{AreSlotRuns}
use Rattle.schedule_check.proofs.plan_orders.site_runs.plan_runs.Given as goal

abbrev pub invariant-loop-site : goal.invariant-loop-site
invariant-loop-site l = record {
  count : length l.runs.items ≡ length l.plan.sites.plans;
  runs : AreSlotRuns (length l.ranks) l.plan.block l.group l.plan.sites l.site l.runs.items;
}
