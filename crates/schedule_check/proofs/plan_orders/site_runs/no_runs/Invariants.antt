use Rattle.std.proofs.Common.{◌≡◌, ℕ, [], length}
use Rattle.schedule_check.specs.Runs.{slot_runs}
use Rattle.schedule_check.proofs.plan_orders.site_runs.no_runs.Given as goal

abbrev pub invariant-loop : goal.invariant-loop
invariant-loop l = record {
  count : length l.runs.items ≡ l.counter;
  none : (k : ℕ) → slot_runs l.runs.items k ≡ [];
}
