use Rattle.std.proofs.Common.{◌≡◌, ◌∙◌, ℕ, arith, false}
use Rattle.std.specs.Prelude.{slice_index_or}
use Rattle.std.proofs.lemmas.List.{length_push}
use Rattle.mesh_decl.specs.Mesh.{dat_count}
use Rattle.bound_program.specs.Values.{bound_of}
use Rattle.loop_plan.proofs.Behind.{bit_more}
use Rattle.loop_plan.proofs.PlansMore.{plans_more, by_bits}
use Rattle.loop_plan.proofs.items.item_plans.Goals as goal

pub loop-item-preserved : goal.loop-item-preserved
loop-item-preserved c =
    let b = bound_of c.args.bound.now in
    let e : c.dat_count-dats.result ≡ dat_count c.args.bound.now.mesh = c.dat_count-dats.ensures.count in
    let k : ℕ = c.loop-item.item in
    rw c.in_ok-push.ensures.items (
      omega (arith, length_push c.loop-item.plans.items c.in_ok-plan_item.field-0, c.loop-item.invariant.0),
      c.in_ok-plan_item.ensures.count ∙ e,
      plans_more b c.args.halos.now k c.loop-item.plans.items c.in_ok-plan_item.field-0 c.loop-item.invariant.0 c.loop-item.invariant.2
          (by_bits b c.args.halos.now k c.dat_count-dats.result c.loop-item.dirty c.in_ok-plan_item.field-0 e c.loop-item.invariant.3
          c.in_ok-plan_item.ensures.exchange c.in_ok-plan_item.ensures.pairs),
      λ d l. bit_more b k d (slice_index_or c.loop-item.dirty d false) (slice_index_or c.plan_item.new.dirty d false) (c.loop-item.invariant.3 d l) (c.in_ok-plan_item.ensures.bits d (omega arith)),
    )
