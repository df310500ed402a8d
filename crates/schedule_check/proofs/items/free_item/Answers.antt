use Rattle.std.proofs.Common.{◌≡◌, ◌<◌, ◌∙◌, ℕ, List, length, get_or, subst, sym, ap}
use Rattle.bound_program.specs.Values.{bound_of, BoundValue}
use Rattle.bound_program.specs.Fits.{site_at}
use Rattle.step_judge.specs.Run.{Run}
use Rattle.step_judge.specs.Item.{no_run, pair_at}
use Rattle.step_judge.specs.NewItem.{free_item}
use Rattle.schedule_check.specs.ItemMarks.{AreItemMarks}
use Rattle.loop_plan.specs.declared.types.Pair.{Pair}
use Rattle.loop_plan.specs.Values.{PlanValue, SitePlanValue, plan_of, item_plan, site_plan_of}
use Rattle.loop_plan.specs.Pairs.{passes, pairs_below, sets_of, core_in}
use Rattle.schedule_check.specs.Froms.{froms, tos}
use Rattle.schedule_check.specs.NewPlaces.{AreNewPlaces, AreColoured, blocks_of, inner_of}
use Rattle.schedule_check.proofs.FreshItems.{loop_fresh}
use Rattle.schedule_check.proofs.ItemPairs.{pairs_here, pairs_passed, few_senders, as_many_receivers, senders_below, receivers_below, own_pairs}
use Rattle.schedule_check.proofs.items.free_item.Goals as goal

pub places_by_rank-requires-clause-site : goal.places_by_rank-requires-clause-site
places_by_rank-requires-clause-site c = subst (AreColoured c.args.plan.now.block (length c.args.ranks.now)) (sym c.site_of-found.ensures) c.requires.colours

pub of_messages-requires-clause-few : goal.of_messages-requires-clause-few
of_messages-requires-clause-few c =
    few_senders (bound_of c.args.bound.now) c.args.ranks.now c.args.plan.now c.args.item c.requires.plan c.requires.item
    c.index.result.now c.index.ensures c.as_slice-pairs.result.now c.as_slice-pairs.ensures.value
    c.in_ok-senders.field-0.items c.in_ok-receivers.field-0.items c.in_ok-senders.ensures c.in_ok-receivers.ensures c.requires.few

pub of_messages-requires-clause-both : goal.of_messages-requires-clause-both
of_messages-requires-clause-both c =
    as_many_receivers (bound_of c.args.bound.now) c.args.ranks.now c.args.plan.now c.args.item c.requires.plan c.requires.item
    c.index.result.now c.index.ensures c.as_slice-pairs.result.now c.as_slice-pairs.ensures.value
    c.in_ok-senders.field-0.items c.in_ok-receivers.field-0.items c.in_ok-senders.ensures c.in_ok-receivers.ensures

pub of_messages-requires-clause-from : goal.of_messages-requires-clause-from
of_messages-requires-clause-from c =
    senders_below (bound_of c.args.bound.now) c.args.ranks.now c.args.plan.now c.args.item c.requires.plan c.requires.item
    c.index.result.now c.index.ensures c.as_slice-pairs.result.now c.as_slice-pairs.ensures.value
    c.in_ok-senders.field-0.items c.in_ok-receivers.field-0.items c.in_ok-senders.ensures c.in_ok-receivers.ensures

pub of_messages-requires-clause-to : goal.of_messages-requires-clause-to
of_messages-requires-clause-to c =
    receivers_below (bound_of c.args.bound.now) c.args.ranks.now c.args.plan.now c.args.item c.requires.plan c.requires.item
    c.index.result.now c.index.ensures c.as_slice-pairs.result.now c.as_slice-pairs.ensures.value
    c.in_ok-senders.field-0.items c.in_ok-receivers.field-0.items c.in_ok-senders.ensures c.in_ok-receivers.ensures

pub of_messages-requires-clause-apart : goal.of_messages-requires-clause-apart
of_messages-requires-clause-apart c =
    own_pairs (bound_of c.args.bound.now) c.args.ranks.now c.args.plan.now c.args.item c.requires.plan c.requires.item
    c.index.result.now c.index.ensures c.as_slice-pairs.result.now c.as_slice-pairs.ensures.value
    c.in_ok-senders.field-0.items c.in_ok-receivers.field-0.items c.in_ok-senders.ensures c.in_ok-receivers.ensures

pub returns : goal.returns
returns c =
    let b : BoundValue = bound_of c.args.bound.now in
    let p : PlanValue = plan_of c.args.plan.now in
    let pairs : List Pair = c.as_slice-pairs.result.now in
    let here : pairs ≡ (item_plan p c.args.item).pairs =
    pairs_here (bound_of c.args.bound.now) c.args.ranks.now c.args.plan.now c.args.item c.requires.plan c.requires.item
    c.index.result.now c.index.ensures c.as_slice-pairs.result.now c.as_slice-pairs.ensures.value in
    let sent : pairs ≡ pairs_below (passes b.mesh c.args.ranks.now (item_plan p c.args.item).exchange) p.ranks p.ranks =
    pairs_passed (bound_of c.args.bound.now) c.args.ranks.now c.args.plan.now c.args.item c.requires.plan c.requires.item
    c.index.result.now c.index.ensures c.as_slice-pairs.result.now c.as_slice-pairs.ensures.value in
    let es : c.in_ok-senders.field-0.items ≡ froms pairs = c.in_ok-senders.ensures in
    let er : c.in_ok-receivers.field-0.items ≡ tos pairs = c.in_ok-receivers.ensures in
    let runs : List Run = c.in_ok-places.places.items in
    let s : ℕ = c.args.site in
    let plan : SitePlanValue = site_plan_of c.site_of-found.result.now in
    let each : (r : ℕ) → r < length c.args.ranks.now → AreNewPlaces p.block (blocks_of plan.colours r) (inner_of plan.colours r)
    (core_in (sets_of c.args.ranks.now r) (site_at b s).set) (get_or runs r no_run) =
    subst (λ z. (r : ℕ) → r < length c.args.ranks.now → AreNewPlaces p.block (blocks_of plan.colours r) (inner_of plan.colours r)
    (core_in (sets_of c.args.ranks.now r) z) (get_or runs r no_run)) c.set_of.ensures c.in_ok-places.ensures.places in
    let fresh = loop_fresh b c.args.ranks.now p c.args.item s pairs runs plan c.requires.runs sent c.requires.plan.ranks c.in_ok-places.ensures.count c.site_of-found.ensures
    (subst (AreColoured c.args.plan.now.block (length c.args.ranks.now)) (sym c.site_of-found.ensures) c.requires.colours) each in
    let made : c.in_ok-marks.marks ≡ free_item (froms pairs) (tos pairs) runs =
    c.in_ok-marks.ensures ∙ (ap (λ (z : List ℕ). free_item z c.in_ok-receivers.field-0.items runs) es ∙ ap (λ (z : List ℕ). free_item (froms pairs) z runs) er) in
    let same : (q r : ℕ) → pair_at (froms pairs) (tos pairs) q r ≡ pair_at (froms (item_plan p c.args.item).pairs) (tos (item_plan p c.args.item).pairs) q r =
    λ q r. ap (λ (z : List Pair). pair_at (froms z) (tos z) q r) here in
    subst (AreItemMarks b c.args.ranks.now p c.args.item) (sym made) (record { fresh = fresh; pairs = λ q r h. same q r })
