use Rattle.std.proofs.Common.{◌≡◌, ◌<◌, ℕ, length}
use Rattle.std.specs.Prelude.{vec_capacity}
use Rattle.bound_program.specs.Values.{bound_of}
use Rattle.rank_program.specs.Jobs.{task_at, places_in}
use Rattle.rank_program.specs.Targets.{AreTargets}
use Rattle.rank_program.proofs.job_targets.push_targets.Given as goal

abbrev pub invariant-loop-task : goal.invariant-loop-task
invariant-loop-task l = record {
  each : (j : ℕ) → j < l.task-index → AreTargets (bound_of l.bound) l.args (task_at l.tasks j) (places_in l.targets.items j);
  count : length l.targets.items ≡ l.task-index;
  room : vec_capacity l.targets ≡ vec_capacity l.initial.targets;
}
