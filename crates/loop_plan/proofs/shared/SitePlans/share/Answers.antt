use Rattle.std.proofs.Common.{◌≡◌, ◌∙◌, ℕ, ap, sym, subst, length, nat_eq, arith}
use Rattle.std.proofs.lemmas.List.{length-map}
use Rattle.indexmap.proofs.CallerLemmas.{insert_entry-new}
use Rattle.loop_plan.specs.SharedPlans.{SharedValue, site_plan_of, AreSlots}
use Rattle.loop_plan.proofs.Sharing.{slots_more, shared_now, no_slot}
use Rattle.loop_plan.proofs.shared.SitePlans.share.Goals as goal
use Rattle.loop_plan.proofs.shared.SitePlans.share.Goals.{in-Ok, in-Err}

pub invariant_of-self : goal.invariant_of-self
invariant_of-self c =
    let inside = c.self.inside in
    let n : ℕ = length inside.plans.items in
    let many : n ≡ length c.args.self.now.plans = sym (length-map inside.plans.items site_plan_of) ∙ ap (λ (v : SharedValue). length v.plans) c.self.view_is in
    elim c.match-insert.branch [
      | in-Ok w ↦ subst (AreSlots n) (sym (w.in-Ok.ensures.entries ∙ insert_entry-new nat_eq inside.slots c.args.site c.args.slot
          (no_slot inside.plans.items inside.slots.entries c.args.self.now c.self.view_is c.args.site c.requires.none)))
          (slots_more n inside.slots.entries c.args.site c.args.slot (omega (arith, many, c.requires.slot)) c.self.invariant)
      | in-Err w ↦ subst (AreSlots n) (sym w.in-Err.ensures.err) c.self.invariant
    ]

pub returns-clause-entries : goal.returns-clause-entries
returns-clause-entries c =
    let inside = c.self.inside in
    elim c.match-insert.branch [
      | in-Ok w ↦ rw w.result-is (shared_now inside.plans.items inside.slots.entries c.insert.new.self.entries c.args.self.now c.args.site c.args.slot c.self.view_is
          (w.in-Ok.ensures.entries ∙ insert_entry-new nat_eq inside.slots c.args.site c.args.slot
          (no_slot inside.plans.items inside.slots.entries c.args.self.now c.self.view_is c.args.site c.requires.none)))
      | in-Err w ↦ rw w.result-is tt
    ]
