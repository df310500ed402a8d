use Rattle.std.proofs.Common.{◌≡◌, ◌<◌, ◌∙◌, ap, sym, subst, length}
use Rattle.std.specs.Prelude.{IfSome}
use Rattle.std.proofs.lemmas.List.{length-map}
use Rattle.loop_plan.specs.SharedPlans.{SharedValue, site_plan_of}
use Rattle.loop_plan.proofs.Sharing.{slot_within}
use Rattle.loop_plan.proofs.shared.SitePlans.slot.Goals as goal

pub returns-clause-within : goal.returns-clause-within
returns-clause-within c =
    let many : length c.self.inside.plans.items ≡ length c.args.self.now.plans =
    sym (length-map c.self.inside.plans.items site_plan_of) ∙ ap (λ (v : SharedValue). length v.plans) c.self.view_is in
    subst (λ n. IfSome c.copied.result (λ k. k < n)) many
    (slot_within (length c.self.inside.plans.items) c.self.inside.slots.entries c.args.site c.copied.result (c.copied.ensures ∙ c.get.ensures.value) c.self.invariant)
