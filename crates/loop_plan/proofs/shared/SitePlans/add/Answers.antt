use Rattle.std.proofs.Common.{◌≡◌, ◌∙◌, ◌+◌, ℕ, ap, sym, subst, length, nat_eq, arith}
use Rattle.std.proofs.lemmas.List.{length_push}
use Rattle.indexmap.proofs.CallerLemmas.{insert_entry-new}
use Rattle.loop_plan.specs.SharedPlans.{AreSlots}
use Rattle.loop_plan.proofs.Sharing.{slots_wider, slots_more, added_now, no_slot}
use Rattle.loop_plan.proofs.shared.SitePlans.add.Goals as goal
use Rattle.loop_plan.proofs.shared.SitePlans.add.Goals.{in-Ok, in-Err}

pub invariant_of-self-2 : goal.invariant_of-self-2
invariant_of-self-2 c =
    let inside = c.self.inside in
    let n : ℕ = length inside.plans.items in
    let m : ℕ = length c.push.new.self.items in
    let one : m ≡ n + 1 = ap length c.in_ok-push.ensures.items ∙ length_push inside.plans.items c.args.plan in
    let wider : AreSlots m inside.slots.entries = slots_wider n m inside.slots.entries (omega (arith, one)) c.self.invariant in
    elim c.match-insert.branch [
      | in-Ok w ↦ subst (AreSlots m) (sym (w.in-Ok.ensures.entries ∙ insert_entry-new nat_eq inside.slots c.args.site c.len-slot.result
          (no_slot inside.plans.items inside.slots.entries c.args.self.now c.self.view_is c.args.site c.requires)))
          (slots_more m inside.slots.entries c.args.site c.len-slot.result (omega (arith, one, c.len-slot.ensures, inside.plans.ok.0)) wider)
      | in-Err w ↦ subst (AreSlots m) (sym w.in-Err.ensures.err) wider
    ]

pub returns-clause-entries : goal.returns-clause-entries
returns-clause-entries c =
    let inside = c.self.inside in
    elim c.match-insert.branch [
      | in-Ok w ↦ rw w.result-is (added_now inside.plans.items c.push.new.self.items c.args.plan inside.slots.entries c.insert.new.self.entries c.args.self.now
          c.args.site c.len-slot.result c.self.view_is c.in_ok-push.ensures.items (omega (arith, c.len-slot.ensures, inside.plans.ok.0))
          (w.in-Ok.ensures.entries ∙ insert_entry-new nat_eq inside.slots c.args.site c.len-slot.result
          (no_slot inside.plans.items inside.slots.entries c.args.self.now c.self.view_is c.args.site c.requires))
          c.self.invariant)
      | in-Err w ↦ rw w.result-is tt
    ]
