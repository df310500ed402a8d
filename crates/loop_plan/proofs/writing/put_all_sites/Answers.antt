use Rattle.std.proofs.Common.{◌≡◌, ◌<◌, ◌≤◌, ◌∙◌, ◌++◌, ℕ, List, length, ap, arith}
use Rattle.std.proofs.lemmas.List.{length-map, take_all}
use Rattle.std.specs.List.{flat_map}
use Rattle.op_num.specs.Lines.{text_of_lines}
use Rattle.loop_plan.specs.SharedPlans.{SitePlanValue, entry_at, entries_of, site_plan_of}
use Rattle.loop_plan.specs.PlanText.{loop_lines}
use Rattle.loop_plan.proofs.PlanWriting.{entries_more, by_rank_at}
use Rattle.loop_plan.proofs.writing.put_all_sites.Goals as goal

abbrev entry : ℕ → SitePlanValue → ℕ × SitePlanValue
entry s p = (s, p)

pub put_site_plan-requires : goal.put_site_plan-requires
put_site_plan-requires c =
    let es : List (ℕ × SitePlanValue) = entries_of c.args.sites.now in
    let many : length es ≡ length c.args.sites.now.slots = length-map c.args.sites.now.slots (entry_at c.args.sites.now.plans) in
    let l : c.loop-place.place < length es = omega (arith, many, c.loop-place-test.true, c.loop-place.auto.place-end, c.len-place-end.ensures) in
    by_rank_at es c.loop-place.place (entry c.loop_at-site.result.0 (site_plan_of c.loop_at-site.result.1.now)) c.requires l c.loop_at-site.ensures

pub loop-place-preserved : goal.loop-place-preserved
loop-place-preserved c =
    let es : List (ℕ × SitePlanValue) = entries_of c.args.sites.now in
    let many : length es ≡ length c.args.sites.now.slots = length-map c.args.sites.now.slots (entry_at c.args.sites.now.plans) in
    let l : c.loop-place.place < length es = omega (arith, many, c.loop-place-test.true, c.loop-place.auto.place-end, c.len-place-end.ensures) in
    entries_more es c.loop-place.place (entry c.loop_at-site.result.0 (site_plan_of c.loop_at-site.result.1.now)) c.args.out.now.items c.loop-place.out.items
    c.put_site_plan.new.out.items l c.loop_at-site.ensures c.loop-place.invariant c.in_ok-put_site_plan.ensures

pub returns : goal.returns
returns c =
    let es : List (ℕ × SitePlanValue) = entries_of c.args.sites.now in
    let many : length es ≡ length c.args.sites.now.slots = length-map c.args.sites.now.slots (entry_at c.args.sites.now.plans) in
    let l : length es ≤ c.loop-place.place = omega (arith, many, c.loop-place-test.false, c.loop-place.auto.place-end, c.len-place-end.ensures) in
    c.loop-place.invariant ∙ ap (λ z. c.args.out.now.items ++ text_of_lines (flat_map loop_lines z)) (take_all c.loop-place.place es l)
