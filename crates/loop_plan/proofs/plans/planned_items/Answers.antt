use Rattle.bound_program.specs.Values.{bound_of}
use Rattle.loop_plan.proofs.Ranges.{in_range}
use Rattle.loop_plan.proofs.Planning.{exports_had, are_planned}
use Rattle.loop_plan.proofs.plans.planned_items.Goals as goal

pub item_plans-requires-clause-range : goal.item_plans-requires-clause-range
item_plans-requires-clause-range c = in_range (bound_of c.args.bound.now) c.requires.fits

pub item_plans-requires-clause-exports : goal.item_plans-requires-clause-exports
item_plans-requires-clause-exports c = exports_had c.args.bound.now.mesh c.args.halos.now c.args.ranks.now c.requires.ranks

pub returns : goal.returns
returns c =
    are_planned (bound_of c.args.bound.now) c.args.halos.now c.args.ranks.now c.requires.ranks c.is_in_range.ensures.dats c.in_ok-plans.plans.items
    c.in_ok-plans.ensures.count c.in_ok-plans.ensures.plans
