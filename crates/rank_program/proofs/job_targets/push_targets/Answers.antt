use Rattle.std.proofs.Common.{◌∙◌, sym, subst, arith, length}
use Rattle.bound_program.specs.Values.{bound_of}
use Rattle.rank_program.specs.Jobs.{task_at, places_in}
use Rattle.rank_program.specs.Targets.{AreTargets}
use Rattle.rank_program.proofs.JobTargets.{one_more}
use Rattle.rank_program.proofs.job_targets.push_targets.Goals as goal

pub targets_of-requires-clause-there : goal.targets_of-requires-clause-there
targets_of-requires-clause-there c = c.requires.there c.loop-task.task-index c.loop-task-test.true

pub loop-task-preserved : goal.loop-task-preserved
loop-task-preserved c = record {
  each = λ j lt.
      subst (λ ts. AreTargets (bound_of c.args.bound.now) c.args.args.now (task_at c.args.tasks.now j) (places_in ts j)) (sym c.push_reserved.ensures.items)
      (one_more (bound_of c.args.bound.now) c.args.args.now c.args.tasks.now c.loop-task.targets.items c.targets_of.result c.loop-task.task-index
      c.loop-task.invariant.count c.loop-task.invariant.each (record { places_are = c.targets_of.ensures.places; within = c.targets_of.ensures.within; count = c.targets_of.ensures.count }) j lt);
  count = omega (arith, c.push_reserved.ensures.len, c.loop-task.invariant.count);
  room = c.push_reserved.ensures.capacity ∙ c.loop-task.invariant.room;
}
