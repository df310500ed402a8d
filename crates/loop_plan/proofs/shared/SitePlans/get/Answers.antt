use Rattle.std.proofs.Common.{◌<◌, Some, arith, length}
use Rattle.loop_plan.proofs.Sharing.{slot_within, found_plan, found_none}
use Rattle.loop_plan.proofs.shared.SitePlans.get.Goals as goal

pub index-requires : goal.index-requires
index-requires c =
    let h : c.in-Some.slot.now < length c.self.inside.plans.items =
    slot_within (length c.self.inside.plans.items) c.self.inside.slots.entries c.args.site (Some c.in-Some.slot.now)
    c.in-Some.ensures.value c.self.invariant in
    omega (arith, h, c.self.inside.plans.ok.0)

pub returns-in-Some : goal.returns-in-Some
returns-in-Some c =
    found_plan c.self.inside.plans.items c.self.inside.slots.entries c.args.self.now c.self.view_is c.args.site c.in-Some.slot.now c.index.result.now
    c.in-Some.ensures.value
    (slot_within (length c.self.inside.plans.items) c.self.inside.slots.entries c.args.site (Some c.in-Some.slot.now) c.in-Some.ensures.value c.self.invariant)
    c.index.ensures

pub returns-in-None : goal.returns-in-None
returns-in-None c = found_none c.self.inside.plans.items c.self.inside.slots.entries c.args.self.now c.self.view_is c.args.site c.in-None.ensures.value
