use Rattle.std.proofs.Common.{◌<◌, List, length, subst}
use Rattle.std.specs.Prelude.{slice_index_or}
use Rattle.bound_program.specs.Values.{bound_of}
use Rattle.loop_plan.specs.declared.alike.PlanKey.{PlanKey}
use Rattle.loop_plan.specs.SameKeys.{AreSameKeys}
use Rattle.loop_plan.specs.SharedPlans.{entries_of, site_plan_of}
use Rattle.loop_plan.specs.SitePlans.{IsLeastPlan}
use Rattle.loop_plan.proofs.SitePlanning.{no_plan}
use Rattle.loop_plan.proofs.SamePlans.{made_shared, made_added}
use Rattle.loop_plan.proofs.sites.add_plan.Goals as goal

pub share-requires-clause-none : goal.share-requires-clause-none
share-requires-clause-none c =
    no_plan (bound_of c.args.bound.now) (IsLeastPlan (bound_of c.args.bound.now) c.args.ranks.now c.args.block) c.args.site (entries_of c.args.making.now.plans) c.requires.before.plans

pub add-requires : goal.add-requires
add-requires c =
    no_plan (bound_of c.args.bound.now) (IsLeastPlan (bound_of c.args.bound.now) c.args.ranks.now c.args.block) c.args.site (entries_of c.args.making.now.plans) c.requires.before.plans

pub returns-in-Some : goal.returns-in-Some
returns-in-Some c =
    made_shared (bound_of c.args.bound.now) c.args.ranks.now c.args.block c.args.site c.args.making.now.plans c.args.making.now.keys.items c.requires.before
    c.requires.run c.share.new.self c.in_ok-key.key c.in-Some.slot c.in_ok-key.ensures
    (subst (λ (z : List PlanKey). c.in-Some.slot < length z) c.deref.ensures.value c.in-Some.ensures.within)
    (subst (λ (z : List PlanKey). (d : PlanKey) → AreSameKeys (slice_index_or z c.in-Some.slot d) c.in_ok-key.key) c.deref.ensures.value c.in-Some.ensures.same)
    c.in_ok-share.ensures.plans c.in_ok-share.ensures.entries

pub returns : goal.returns
returns c =
    made_added (bound_of c.args.bound.now) c.args.ranks.now c.args.block c.args.site c.args.making.now.plans c.args.making.now.keys.items c.requires.before
    c.requires.run c.add.new.self c.in_ok-key.key (site_plan_of c.in_ok-plan.plan) c.push.new.self.items c.in_ok-key.ensures c.in_ok-plan.ensures
    c.in_ok-add.ensures.plans c.in_ok-add.ensures.entries c.in_ok-push.ensures.items
