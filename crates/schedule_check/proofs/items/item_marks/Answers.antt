use Rattle.std.proofs.Common.{◌≡◌, ◌<◌, ap, subst, length, true}
use Rattle.bound_program.specs.Values.{bound_of, Free, BoundValue}
use Rattle.loop_plan.specs.Values.{plan_of}
use Rattle.loop_plan.specs.Needs.{item_at}
use Rattle.loop_plan.specs.Places.{runs_free}
use Rattle.loop_plan.specs.StepOutline.{is_free, loop_of}
use Rattle.loop_plan.proofs.Public.{loop_below, loop_runs}
use Rattle.schedule_check.proofs.Loops.{runs_as_free, coloured}
use Rattle.schedule_check.proofs.items.item_marks.Goals as goal

pub free_item-requires-clause-runs : goal.free_item-requires-clause-runs
free_item-requires-clause-runs c = runs_as_free (item_at (bound_of c.args.bound.now) c.args.item) c.in-Free.site c.in-Free.ensures

pub free_item-requires-clause-site : goal.free_item-requires-clause-site
free_item-requires-clause-site c =
    let b : BoundValue = bound_of c.args.bound.now in
    let e : item_at b c.args.item ≡ Free c.in-Free.site = runs_as_free (item_at b c.args.item) c.in-Free.site c.in-Free.ensures in
    subst (λ z. z < length b.sites) (ap loop_of e) (loop_below b c.requires.range c.args.item c.requires.item (ap is_free e))

pub free_item-requires-clause-colours : goal.free_item-requires-clause-colours
free_item-requires-clause-colours c =
    let b : BoundValue = bound_of c.args.bound.now in
    let e : item_at b c.args.item ≡ Free c.in-Free.site = runs_as_free (item_at b c.args.item) c.in-Free.site c.in-Free.ensures in
    let below : c.in-Free.site < length b.sites = subst (λ z. z < length b.sites) (ap loop_of e) (loop_below b c.requires.range c.args.item c.requires.item (ap is_free e)) in
    let runs : runs_free b c.in-Free.site ≡ true = subst (λ z. runs_free b z ≡ true) (ap loop_of e) (loop_runs b c.requires.range c.args.item c.requires.item (ap is_free e)) in
    coloured b c.args.ranks.now (plan_of c.args.plan.now) c.in-Free.site c.requires.plan below runs
