use Rattle.std.proofs.Common.{◌≡◌, ◌<◌, ◌≤◌, ℕ, refl, length, map, arith}
use Rattle.std.proofs.lemmas.List.{length-map}
use Rattle.bound_program.specs.Values.{bound_of}
use Rattle.loop_plan.specs.Values.{item_plan_of}
use Rattle.loop_plan.specs.Needs.{item_at}
use Rattle.loop_plan.specs.ItemPlans.{plan_in}
use Rattle.loop_plan.proofs.PlanLines.{items_more}
use Rattle.loop_plan.proofs.PlanWriting.{items_all}
use Rattle.loop_plan.proofs.writing.put_items.Goals as goal

pub loop-item-preserved : goal.loop-item-preserved
unfolding item_at
loop-item-preserved c =
    let b = bound_of c.args.bound.now in
    let k : ℕ = c.loop-item.item in
    let l : k < length c.args.plans.now = omega (arith, c.loop-item-test.true, c.loop-item.auto.item-end) in
    let m : length (map item_plan_of c.args.plans.now) ≡ length c.args.plans.now = length-map c.args.plans.now item_plan_of in
    items_more b.mesh k b.trace (map item_plan_of c.args.plans.now) (item_at b k) (plan_in c.args.plans.now k).exchange c.args.out.now.items
    c.loop-item.out.items c.put_item_at.new.out.items (omega (arith, c.requires.count)) (omega (arith, c.requires.count)) refl refl
    c.loop-item.invariant c.in_ok-put_item_at.ensures

pub returns : goal.returns
returns c =
    let b = bound_of c.args.bound.now in
    let k : ℕ = c.loop-item.item in
    let l : length c.args.plans.now ≤ k = omega (arith, c.loop-item-test.false, c.loop-item.auto.item-end) in
    let m : length (map item_plan_of c.args.plans.now) ≡ length c.args.plans.now = length-map c.args.plans.now item_plan_of in
    items_all b.mesh k b.trace (map item_plan_of c.args.plans.now) c.args.out.now.items c.loop-item.out.items (omega (arith, c.requires.count)) (omega arith)
    c.loop-item.invariant
