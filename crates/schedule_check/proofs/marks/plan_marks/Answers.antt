use Rattle.bound_program.specs.Values.{bound_of, BoundValue}
use Rattle.loop_plan.specs.Values.{plan_of, PlanValue}
use Rattle.loop_plan.specs.StepOutline.{step_outline}
use Rattle.schedule_check.proofs.PlanMarks.{some_rank, few_ranks, are_fresh}
use Rattle.schedule_check.proofs.marks.plan_marks.Goals as goal

pub all_items-requires-clause-range : goal.all_items-requires-clause-range
all_items-requires-clause-range c = c.bound_is_in_range.ensures (bound_of c.args.bound.now) c.requires.fits

pub all_items-requires-clause-some : goal.all_items-requires-clause-some
all_items-requires-clause-some c = some_rank c.args.bound.now.mesh c.requires.ranks.0 c.args.ranks.now c.requires.ranks.1

pub all_items-requires-clause-few : goal.all_items-requires-clause-few
all_items-requires-clause-few c = few_ranks c.args.bound.now.mesh c.requires.ranks.0 c.args.ranks.now c.requires.ranks.1

pub fresh_marks-requires : goal.fresh_marks-requires
fresh_marks-requires c =
    let b : BoundValue = bound_of c.args.bound.now in
    let p : PlanValue = plan_of c.args.plan.now in (
      step_outline b c.args.ranks.now p,
      are_fresh b c.args.ranks.now p c.in_ok-items.items.items c.requires.plan.ranks
          (some_rank c.args.bound.now.mesh c.requires.ranks.0 c.args.ranks.now c.requires.ranks.1) c.requires.fits.few c.in_ok-items.ensures.count c.in_ok-items.ensures.items,
    )

pub returns-clause-plan : goal.returns-clause-plan
returns-clause-plan c =
    let b : BoundValue = bound_of c.args.bound.now in
    let p : PlanValue = plan_of c.args.plan.now in
    c.in_ok-marks.ensures.plan (step_outline b c.args.ranks.now p) (are_fresh b c.args.ranks.now p c.in_ok-items.items.items c.requires.plan.ranks
    (some_rank c.args.bound.now.mesh c.requires.ranks.0 c.args.ranks.now c.requires.ranks.1) c.requires.fits.few c.in_ok-items.ensures.count c.in_ok-items.ensures.items)
