use Rattle.std.proofs.Common.{rules, ◌≡◌, ◌∙◌, length, subst, sym}
use Rattle.std.proofs.lemmas.List.{length-map}
use Rattle.bound_program.specs.Values.{bound_of, site_of, BoundValue}
use Rattle.schedule_check.specs.Runs.{AreSlotRuns}
use Rattle.schedule_check.proofs.plan_orders.Shapes.{pairs_inside, is_shape}
use Rattle.schedule_check.proofs.plan_orders.plan_shape.PlanShape.new.Goals as goal

pub item_messages-requires : goal.item_messages-requires
item_messages-requires c = pairs_inside (bound_of c.args.bound.now) c.args.ranks.now c.args.plan.now c.deref.result.now c.requires.plan c.deref.ensures.value

pub invariant_of-result : goal.invariant_of-result
invariant_of-result c =
    let b : BoundValue = bound_of c.args.bound.now in
    let count : c.len-2.result ≡ length c.args.bound.now.sites.items = search rules in
    let sites : c.len-2.result ≡ length b.sites = count ∙ sym (length-map c.args.bound.now.sites.items site_of) in
    record {
      is_shape = is_shape b c.args.ranks.now c.args.plan.now c.deref.result.now c.requires.plan c.deref.ensures.value c.args.group
          c.in_ok-messages.messages.items c.in_ok-runs.runs.items c.requires.fits.few (c.bound_is_in_range.ensures b c.requires.fits)
          c.in_ok-messages.ensures.count c.in_ok-messages.ensures.messages c.in_ok-runs.ensures.count
          (subst (λ n. AreSlotRuns (length c.args.ranks.now) c.args.plan.now.block c.args.group c.args.plan.now.sites n c.in_ok-runs.runs.items) sites c.in_ok-runs.ensures.runs);
    }
