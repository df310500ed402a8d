use Rattle.std.proofs.Common.{◌≡◌, ◌<◌, ◌≤◌, ℕ, List, true, replicate, take, length, sym, ap, subst, ◌∙◌, arith}
use Rattle.std.proofs.lemmas.List.{length-map, get_or-replicate}
use Rattle.kernel_model.specs.Resolved.{IsResolved}
use Rattle.kernel_model.specs.declared.types.views.frame.Place.{Place}
use Rattle.kernel_model.specs.Framed.{PlacesIn}
use Rattle.kernel_runs.specs.Saving.{place_cells}
use Rattle.deep_halo.specs.Placed.{arg_place}
use Rattle.deep_halo.specs.Places.{all_cells, stands_at}
use Rattle.deep_halo.specs.Sound.{program_in}
use Rattle.deep_halo.proofs.chain_memory.Running.{few_arguments, all_marked, runs_placed, places_fit, places_few, takes, resolved, ends_placed}
use Rattle.deep_halo.proofs.chain_memory.elements.run_element.Goals as goal

pub run_here-requires-clause-fits : goal.run_here-requires-clause-fits
run_here-requires-clause-fits c =
    let b = program_in c.args.blocks.now in
    let o = c.args.blocks.now.owners.now in
    let few : length c.args.all.now.args.now ≤ 16 = few_arguments b c.args.all.now c.requires.sound.fits c.requires.of in
    let marked = λ (a : ℕ) (lt : a < length c.args.all.now.args.now). get_or-replicate 16 a true Rattle.std.proofs.Common.false (omega (arith, few, lt)) in
    let runs = runs_placed b o c.args.at c.args.all.now c.args.element c.placed_elements_run.ensures c.windows_are_reached.ensures c.requires.sound.fits c.requires.sound.owners
    c.is_in_range.ensures c.requires.at c.requires.of c.requires.element c.args.values.now (replicate 16 true) marked in
    subst (λ n. PlacesIn n c.put_places.new.places) (sym c.requires.memory)
    (subst (λ (ps : List Place). PlacesIn (all_cells b o.ranks) ps) (sym c.put_places.ensures)
    (places_fit b o c.args.at c.args.all.now c.args.element c.args.values.now (replicate 16 true) runs c.requires.of))

pub run_here-requires-clause-params : goal.run_here-requires-clause-params
run_here-requires-clause-params c =
    ap length c.put_places.ensures
    ∙ length-map c.args.all.now.args.now
    (arg_place (program_in c.args.blocks.now) c.args.all.now.args.now c.args.element
    (stands_at (program_in c.args.blocks.now) c.args.blocks.now.owners.now c.args.at))
    ∙ takes (program_in c.args.blocks.now) c.args.all.now c.requires.sound.fits c.requires.of

pub run_here-requires-clause-room : goal.run_here-requires-clause-room
run_here-requires-clause-room c =
    let few : place_cells c.put_places.new.places ≤ 1024 =
    subst (λ (ps : List Place). place_cells ps ≤ 1024) (sym c.put_places.ensures)
    (places_few (program_in c.args.blocks.now) c.args.blocks.now.owners.now c.args.at c.args.all.now c.args.element c.requires.sound.fits c.requires.of) in
    omega (arith, few, c.requires.saved)

pub run_here-requires-clause-resolved : goal.run_here-requires-clause-resolved
run_here-requires-clause-resolved c =
    subst (λ n. IsResolved n c.args.all.now.code.now.kernel.now) (sym c.requires.values) (resolved (program_in c.args.blocks.now) c.args.all.now c.requires.sound.fits c.requires.of)

pub returns : goal.returns
returns c =
    let b = program_in c.args.blocks.now in
    let o = c.args.blocks.now.owners.now in
    let n : ℕ = length c.args.all.now.args.now in
    let few : length c.args.all.now.args.now ≤ 16 = few_arguments b c.args.all.now c.requires.sound.fits c.requires.of in
    let runs = runs_placed b o c.args.at c.args.all.now c.args.element c.placed_elements_run.ensures c.windows_are_reached.ensures c.requires.sound.fits c.requires.sound.owners
    c.is_in_range.ensures c.requires.at c.requires.of c.requires.element c.args.values.now (take n (replicate 16 true)) (λ a lt. all_marked n a few lt) in
    ends_placed b o c.args.at c.args.all.now c.args.element c.args.values.now (take n (replicate 16 true)) c.put_places.new.places c.args.memory.now c.run_here.new.memory c.run_here.result
    c.requires.of runs c.requires.memory c.put_places.ensures c.run_here.ensures.fault c.run_here.ensures.memory
