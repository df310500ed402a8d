use Rattle.std.proofs.Common.{◌≡◌, ◌<◌, ◌*◌, ◌∙◌, ℕ, List, length, subst, sym, ap, arith}
use Rattle.std.specs.Prelude.{◌↔◌, slice_index}
use Rattle.std.proofs.lemmas.List.{length_push, get_or_read}
use Rattle.colouring.specs.declared.types.Colours.{Colours}
use Rattle.step_judge.specs.Run.{Run}
use Rattle.step_judge.specs.Item.{no_run}
use Rattle.loop_plan.specs.Pairs.{sets_of, core_in}
use Rattle.schedule_check.specs.NewPlaces.{AreNewPlaces, blocks_of, inner_of}
use Rattle.schedule_check.proofs.PlaceReads.{blocks_read, inner_read, one_more}
use Rattle.schedule_check.proofs.places.places_by_rank.Goals as goal

pub new_places-requires-clause-blocks : goal.new_places-requires-clause-blocks
new_places-requires-clause-blocks c a =
    let r : ℕ = c.loop-rank.rank in
    let n : ℕ = length c.args.ranks.now in
    let cs : List Colours = c.args.site.now.colours.items in
    let l : r < n = omega (arith, c.loop-rank-test.true, c.loop-rank.auto.rank-end) in
    let lc : r < length cs = omega (arith, c.requires.site.colours_count) in
    let lp : r < length c.args.site.now.places.items = omega (arith, c.requires.site.places_count) in
    let count : c.index-count.result.now ≡ slice_index c.args.site.now.places.items r = get_or_read c.args.site.now.places.items r c.index-count.result.now lp c.index-count.ensures 0 in
    subst (λ (z : List ℕ). (a < length z) ↔ (a * c.args.size < c.index-count.result.now)) (sym (blocks_read cs r c.index.result.now lc c.index.ensures))
    (subst (λ z. (a < length (blocks_of cs r)) ↔ (a * c.args.size < z)) (sym count) (c.requires.site.blocks r a l))

pub loop-rank-preserved : goal.loop-rank-preserved
loop-rank-preserved c =
    let r : ℕ = c.loop-rank.rank in
    let xs : List Run = c.loop-rank.places.items in
    let v : Run = c.in_ok-new_places.field-0 in
    let cs : List Colours = c.args.site.now.colours.items in
    let l : r < length c.args.ranks.now = omega (arith, c.loop-rank-test.true, c.loop-rank.auto.rank-end) in
    let lc : r < length cs = omega (arith, c.requires.site.colours_count) in
    let core = c.core_in-core.ensures ∙ ap (λ z. core_in z c.args.set) c.sets_on.ensures in
    let made : AreNewPlaces c.args.size c.index.result.now.blocks.items c.index.result.now.inner.items (core_in (sets_of c.args.ranks.now r) c.args.set) v =
    subst (λ z. AreNewPlaces c.args.size c.index.result.now.blocks.items c.index.result.now.inner.items z v) core c.in_ok-new_places.ensures in
    let here : AreNewPlaces c.args.size (blocks_of cs r) (inner_of cs r) (core_in (sets_of c.args.ranks.now r) c.args.set) v =
    subst (λ (z : List ℕ). AreNewPlaces c.args.size z (inner_of cs r) (core_in (sets_of c.args.ranks.now r) c.args.set) v) (blocks_read cs r c.index.result.now lc c.index.ensures)
    (subst (λ (z : List ℕ). AreNewPlaces c.args.size c.index.result.now.blocks.items z (core_in (sets_of c.args.ranks.now r) c.args.set) v)
    (inner_read cs r c.index.result.now lc c.index.ensures) made) in
    rw c.in_ok-push.ensures.items (record {
      count = omega (arith, length_push xs v, c.loop-rank.invariant.count);
      places = one_more (λ a w. AreNewPlaces c.args.size (blocks_of cs a) (inner_of cs a) (core_in (sets_of c.args.ranks.now a) c.args.set)
          w) no_run xs v r c.loop-rank.invariant.count here c.loop-rank.invariant.places;
    })
