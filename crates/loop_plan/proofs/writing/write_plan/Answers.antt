use Rattle.std.proofs.Common.{◌≡◌, ◌∙◌, ◌++◌, sym, ap, length, map, arith, List}
use Rattle.std.proofs.lemmas.List.{length-map}
use Rattle.op_num.specs.Lines.{text_of_lines}
use Rattle.bound_program.specs.Values.{bound_of}
use Rattle.loop_plan.specs.declared.types.ItemPlan.{ItemPlan}
use Rattle.loop_plan.specs.Values.{item_plan_of, plan_of}
use Rattle.loop_plan.specs.PlanText.{item_lines}
use Rattle.loop_plan.proofs.Planning.{sets_had}
use Rattle.loop_plan.proofs.PlanWriting.{are_by_rank, exchanges_are_dats, plan_put}
use Rattle.loop_plan.proofs.writing.write_plan.Goals as goal

pub put_all_halos-requires : goal.put_all_halos-requires
put_all_halos-requires c = record { ranks = sets_had c.args.bound.now.mesh c.requires.ranks.0 c.args.ranks.now c.requires.ranks.1 c.is_in_range.ensures.sizes }

pub put_all_sites-requires : goal.put_all_sites-requires
put_all_sites-requires c =
    let few = (sets_had c.args.bound.now.mesh c.requires.ranks.0 c.args.ranks.now c.requires.ranks.1 c.is_in_range.ensures.sizes).few in
    are_by_rank (bound_of c.args.bound.now) c.args.ranks.now (plan_of c.args.plan.now) c.requires.plan few

pub put_items-requires-clause-few : goal.put_items-requires-clause-few
put_items-requires-clause-few c = c.requires.fits.few

pub put_items-requires-clause-count : goal.put_items-requires-clause-count
put_items-requires-clause-count c =
    let m : length (map item_plan_of c.args.plan.now.items.items) ≡ length c.args.plan.now.items.items = length-map c.args.plan.now.items.items item_plan_of in
    omega (arith, m, c.requires.plan.items, ap (λ (z : List ItemPlan). length z) c.as_slice.ensures.value)

pub put_items-requires-clause-dats : goal.put_items-requires-clause-dats
put_items-requires-clause-dats c =
    exchanges_are_dats (bound_of c.args.bound.now) c.args.ranks.now (plan_of c.args.plan.now) c.requires.plan c.as_slice.result.now
    (ap (λ (z : List ItemPlan). map item_plan_of z) (sym c.as_slice.ensures.value))

pub returns : goal.returns
returns c =
    let b = bound_of c.args.bound.now in
    plan_put b c.args.ranks.now (plan_of c.args.plan.now) c.new-out.result.items c.extend_from_slice.new.self.items c.put_sizes.new.out.items
    c.put_all_halos.new.out.items c.put_all_sites.new.out.items c.put_items.new.out.items c.extend_from_slice-2.new.self.items
    c.new-out.ensures.items c.in_ok-extend_from_slice.ensures.items c.in_ok-put_sizes.ensures c.in_ok-put_all_halos.ensures c.in_ok-put_all_sites.ensures
    (c.in_ok-put_items.ensures
    ∙ ap (λ (z : List ItemPlan). c.put_all_sites.new.out.items ++ text_of_lines (item_lines b.mesh 0 b.trace (map item_plan_of z))) c.as_slice.ensures.value)
    c.in_ok-extend_from_slice-2.ensures.items
