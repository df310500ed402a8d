use Rattle.std.proofs.Common.{◌≡◌, ◌<◌, ◌∙◌, List, length, get_or, refl, sym, ap, subst, arith}
use Rattle.std.proofs.lemmas.List.{get_or-map, length-map}
use Rattle.bound_program.specs.Values.{bound_of, item_of}
use Rattle.loop_plan.specs.Values.{item_plan_of, plan_of, no_item_plan}
use Rattle.schedule_check.proofs.Public.{are_distinct}
use Rattle.plan_counts.specs.Counts.{exchanged_cells}
use Rattle.plan_counts.specs.Imports.{sent_by}
use Rattle.plan_counts.specs.Parts.{tally_in, plus, run_tally, items_tally}
use Rattle.plan_counts.specs.declared.tallies.Tally.{Tally}
use Rattle.plan_counts.proofs.Counted.{written, run_read, item_counted}
use Rattle.plan_counts.proofs.Sites.{item_there}
use Rattle.plan_counts.proofs.Tabled.{sent_same}
use Rattle.plan_counts.proofs.tallies.tallies_of.Goals as goal

pub all_imports-requires : goal.all_imports-requires
all_imports-requires c = are_distinct c.args.bound.now.mesh c.requires.ranks.0 c.args.ranks.now c.requires.ranks.1

pub count_item-requires-clause-dats : goal.count_item-requires-clause-dats
count_item-requires-clause-dats c =
    let b = bound_of c.args.bound.now in
    let p = plan_of c.args.plan.now in
    let items = c.args.plan.now.items.items in
    let k = c.loop-item.item in
    let lt : k < length b.trace = omega (arith, c.loop-item-test.true, c.loop-item.auto.item-end, c.len-item-end.ensures, length-map c.args.bound.now.trace.items item_of) in
    let li : k < length items = omega (arith, lt, c.requires.plan.items, length-map items item_plan_of) in
    (item_there b c.args.ranks.now p items c.requires.plan refl k c.index-item_plan.result.now li lt c.index-item_plan.ensures).dats

pub loop-item-preserved : goal.loop-item-preserved
loop-item-preserved c =
    let b = bound_of c.args.bound.now in
    let p = plan_of c.args.plan.now in
    let items = c.args.plan.now.items.items in
    let k = c.loop-item.item in
    let i = c.index-item_plan.result.now in
    let old = c.loop-item.tallies.items in
    let new = c.count_item.new.tallies in
    let imports = c.in_ok-imports.imports.items in
    let lt : k < length b.trace = omega (arith, c.loop-item-test.true, c.loop-item.auto.item-end, c.len-item-end.ensures, length-map c.args.bound.now.trace.items item_of) in
    let li : k < length items = omega (arith, lt, c.requires.plan.items, length-map items item_plan_of) in
    let lp : k < length p.items = omega (arith, lt, c.requires.plan.items) in
    let inside = item_there b c.args.ranks.now p items c.requires.plan refl k i li lt c.index-item_plan.ensures in
    let same : sent_by b.mesh imports (item_plan_of i) ≡ exchanged_cells b.mesh c.args.ranks.now (item_plan_of i) =
    sent_same b.mesh c.args.ranks.now imports (λ d ld. (c.is_in_range.ensures.dats d ld).set) c.in_ok-imports.ensures (item_plan_of i) inside in
    let here : item_plan_of i ≡ get_or p.items k no_item_plan = sym (get_or-map item_plan_of items k i no_item_plan li ∙ ap item_plan_of (sym c.index-item_plan.ensures)) in
    let count : length new ≡ length old = c.in_ok-count_item.ensures.length ∙ ap length c.deref_mut.ensures.value in
    rw (written c.loop-item.tallies.len old new count c.loop-item.tallies.ok.0) (record {
      count = count ∙ c.loop-item.invariant.count;
      rest = λ s.
          (let done = subst (λ t. tally_in new s ≡ plus (tally_in old s) (run_tally s c.run_at-run.result (item_plan_of i) (sent_by b.mesh t (item_plan_of i)))) c.deref.ensures.value
          (subst (λ (l : List Tally). tally_in new s ≡ plus (tally_in l s)
          (run_tally s c.run_at-run.result (item_plan_of i) (sent_by b.mesh c.deref.result.now (item_plan_of i))))
          c.deref_mut.ensures.value
          (c.in_ok-count_item.ensures.tallies s)) in
          item_counted b c.args.ranks.now s b.trace p.items k (tally_in old s) (tally_in new s) (items_tally b c.args.ranks.now s b.trace p.items)
          c.run_at-run.result (item_plan_of i) (sent_by b.mesh imports (item_plan_of i)) lt lp (run_read b k c.run_at-run.result c.run_at-run.ensures) here same done (c.loop-item.invariant.rest s));
    })
