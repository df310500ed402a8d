use Rattle.std.proofs.Common.{◌≡◌, ◌<◌, ◌≤◌, ◌∙◌, ℕ, max, List, length, map, take, sym, ap, arith}
use Rattle.std.specs.Prelude.{slice_index}
use Rattle.std.proofs.lemmas.List.{length-map, take_all}
use Rattle.std.proofs.lemmas.Option.{get_or_from_slice_get}
use Rattle.loop_plan.specs.SharedPlans.{entry_at}
use Rattle.loop_plan.specs.Values.{SitePlanValue, entries_of, site_plan_of}
use Rattle.rank_layout.specs.Tables.{most}
use Rattle.rank_layout.proofs.Widest.{widest_more}
use Rattle.rank_layout.proofs.place_table.most_places.Goals as goal

abbrev places_at : ℕ → ℕ × SitePlanValue → ℕ
places_at r e = slice_index e.1.places r

pub loop-place-preserved : goal.loop-place-preserved
loop-place-preserved c =
    let es : List (ℕ × SitePlanValue) = entries_of c.args.plan.now.sites in
    let k : ℕ = c.loop-place.place in
    let e : ℕ × SitePlanValue = (c.loop_at.result.0, site_plan_of c.loop_at.result.1.now) in
    let many : length es ≡ length c.args.plan.now.sites.slots = length-map c.args.plan.now.sites.slots (entry_at c.args.plan.now.sites.plans) in
    let l : k < length es = omega (arith, many, c.loop-place-test.true, c.loop-place.auto.place-end, c.len-place-end.ensures) in
    c.max-most.ensures ∙ ap (λ z. max z c.loop-place.most) c.places_in.ensures
    ∙ ap (max (places_at c.args.rank e)) c.loop-place.invariant
    ∙ ap (λ z. max (places_at c.args.rank z) (most (map (places_at c.args.rank) (take k es)))) (sym (get_or_from_slice_get es k e e c.loop_at.ensures))
    ∙ sym (widest_more (places_at c.args.rank) es k e l)

pub returns : goal.returns
returns c =
    let es : List (ℕ × SitePlanValue) = entries_of c.args.plan.now.sites in
    let many : length es ≡ length c.args.plan.now.sites.slots = length-map c.args.plan.now.sites.slots (entry_at c.args.plan.now.sites.plans) in
    let l : length es ≤ c.loop-place.place = omega (arith, many, c.loop-place-test.false, c.loop-place.auto.place-end, c.len-place-end.ensures) in
    c.loop-place.invariant ∙ ap (λ z. most (map (places_at c.args.rank) z)) (take_all c.loop-place.place es l)
