use Rattle.std.proofs.Common.{◌≡◌, ℕ, ℤ, List, length, sym, ap, subst, ◌∙◌, None}
use Rattle.rank_state.specs.Stops.{stop_in}
use Rattle.rank_program.specs.AloneRuns.{AllBegin, Reaches}
use Rattle.rank_program.specs.Sound.{setup_in, layout_in, tables_in}
use Rattle.rank_machine.specs.OnRanks.{places_on}
use Rattle.rank_machine.proofs.OnRanks.{place_is}
use Rattle.rank_machine.proofs.ranks.run_rank.Goals as goal
use Rattle.lemmas.proofs.Lists.{refilled}

pub run_places-part-requires-clause-steps : goal.run_places-part-requires-clause-steps
run_places-part-requires-clause-steps g c κs within =
    let x = c.args.round.now.program.now in
    let places : c.as_slice-places.result.now ≡ places_on c.args.round.now.lists.now c.args.rank =
    c.as_slice-places.ensures.value ∙ place_is c.args.round.now.lists.now c.args.rank c.index-round-rank.result c.requires.can.listed in
    subst (AllBegin (setup_in x) (layout_in x) (tables_in x) c.args.round.now.item c.args.rank) (sym places) c.requires.can.steps

pub returns : goal.returns
returns g c =
    let x = c.args.round.now.program.now in
    let p = setup_in x in
    let l = layout_in x in
    let t = tables_in x in
    let k = c.args.round.now.item in
    let r = c.args.rank in
    let cs = c.args.part.now.room.constants.items in
    let vs = c.args.round.now.variables.now in
    let new = c.run_places-part.new in
    let kept = stop_in c.run_places-part.result in
    let places : c.as_slice-places.result.now ≡ places_on c.args.round.now.lists.now r =
    c.as_slice-places.ensures.value ∙ place_is c.args.round.now.lists.now r c.index-round-rank.result c.requires.can.listed in
    let ran = λ (xs : List ℕ) (from to : List ℤ). Reaches p l t k r cs vs xs
    (record { cells = c.args.part.now.memory.items; partials = from; fault = None }) (length xs)
    (record { cells = new.memory.items; partials = to; fault = kept }) in
    record {
      reaches = subst (λ (z : List ℤ). ran (places_on c.args.round.now.lists.now r) c.args.part.now.partials.items z)
          (sym (refilled c.args.part.now.partials new.partials (c.run_places-part.auto.partials ∙ ap length c.deref_mut.ensures.value)))
          (subst (λ (z : List ℤ). ran (places_on c.args.round.now.lists.now r) z new.partials) c.deref_mut.ensures.value
          (subst (λ (z : List ℕ). ran z c.deref_mut.result.now new.partials) places c.run_places-part.ensures.runs));
      spare = c.run_places-part.ensures.spare;
      space = c.run_places-part.ensures.space;
    }
