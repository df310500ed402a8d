use Rattle.std.proofs.Common.{◌≡◌, ◌≤◌, length, sym, ap, subst, ◌∙◌, arith}
use Rattle.smallvec.proofs.SmallVecLemmas.{items-with_items}
use Rattle.lemmas.proofs.Lists.{refilled}
use Rattle.rank_state.specs.Stops.{stop_in}
use Rattle.rank_program.specs.LocalLoops.{VariablesStand}
use Rattle.rank_program.specs.Rooms.{most_saved}
use Rattle.rank_program.proofs.LocalElements.{locals_here, still_stand, inside, few_cells, unchanged, element_runs}
use Rattle.rank_program.proofs.here.run_element.Goals as goal

pub returns-clause-room : goal.returns-clause-room
returns-clause-room c =
    let l = c.args.local.now in
    let room = c.args.room.now in
    let at : VariablesStand l c.as_mut_slice-cells.result.now = subst (VariablesStand l) (sym c.as_mut_slice-cells.ensures.value) c.requires.room.stand in
    let stand = still_stand l c.requires.is.sound c.requires.is c.steps_stand.ensures c.args.place c.requires.step c.windows_stand.ensures.here
    c.as_mut_slice-cells.result.now c.put_places.new.places at c.put_places.ensures in
    let places = c.put_places.auto.places ∙ ap length c.as_mut_slice-cells.ensures.value in
    let saved = c.run_here-fault.auto.saved ∙ ap length c.deref_mut.ensures.value in
    let locals = c.run_here-fault.auto.scratch ∙ ap length c.deref_mut-2.ensures.value in
    record {
      fits = record {
        places_fit = c.requires.room.fits.places_fit;
        locals_fit = subst (λ n. l.program.now.locals ≤ n) (sym (ap length (refilled room.locals c.run_here-fault.new.scratch locals) ∙ locals)) c.requires.room.fits.locals_fit;
        saved_fits = subst (λ n. most_saved ≤ n) (sym (ap length (refilled room.saved c.run_here-fault.new.saved saved) ∙ saved)) c.requires.room.fits.saved_fits;
        rows_fit = c.requires.room.fits.rows_fit;
      };
      stand = subst (VariablesStand l) (sym (items-with_items room.places c.put_places.new.places places)) stand;
    }

pub put_places-requires-clause-count : goal.put_places-requires-clause-count
put_places-requires-clause-count c = ap length c.as_mut_slice-cells.ensures.value ∙ c.requires.room.stand.count

pub run_here-fault-requires-clause-fits : goal.run_here-fault-requires-clause-fits
run_here-fault-requires-clause-fits c =
    let l = c.args.local.now in
    inside l c.requires.is.sound c.requires.is c.steps_stand.ensures c.args.place c.requires.step c.windows_stand.ensures.here
    c.as_mut_slice-cells.result.now c.put_places.new.places (subst (VariablesStand l) (sym c.as_mut_slice-cells.ensures.value) c.requires.room.stand)
    c.put_places.ensures (length c.fill.new.frame) (c.fill.auto.frame ∙ c.requires.memory)

pub run_here-fault-requires-clause-room : goal.run_here-fault-requires-clause-room
run_here-fault-requires-clause-room c =
    let l = c.args.local.now in
    let few = few_cells l c.requires.is.sound c.requires.is c.steps_stand.ensures c.args.place c.requires.step c.windows_stand.ensures.here
    c.as_mut_slice-cells.result.now c.put_places.new.places (subst (VariablesStand l) (sym c.as_mut_slice-cells.ensures.value) c.requires.room.stand)
    c.put_places.ensures in
    let saved = c.requires.room.fits.saved_fits in
    let same : length c.deref_mut.result.now ≡ length c.args.room.now.saved.items = ap length c.deref_mut.ensures.value in
    omega (arith, few, saved, same)

pub run_here-fault-requires-clause-clean : goal.run_here-fault-requires-clause-clean
run_here-fault-requires-clause-clean c =
    let l = c.args.local.now in
    unchanged l c.requires.is.sound c.requires.is c.steps_stand.ensures c.args.place c.requires.step c.windows_stand.ensures.here
    c.as_mut_slice-cells.result.now c.put_places.new.places (subst (VariablesStand l) (sym c.as_mut_slice-cells.ensures.value) c.requires.room.stand)
    c.put_places.ensures c.unchanged_after_faults.ensures

pub returns-clause-runs : goal.returns-clause-runs
returns-clause-runs c =
    let l = c.args.local.now in
    element_runs l c.requires.is.sound c.requires.is c.steps_stand.ensures c.args.place c.requires.step c.windows_stand.ensures.here
    c.as_mut_slice-cells.result.now c.put_places.new.places (subst (VariablesStand l) (sym c.as_mut_slice-cells.ensures.value) c.requires.room.stand)
    c.put_places.ensures
    c.element_windows_stand.ensures c.frames_are_reached.ensures c.windows_stand.ensures.cells
    c.args.memory.now c.fill.new.frame c.run_here-fault.new.memory c.requires.memory c.fill.auto.frame c.fill.ensures
    c.run_here-fault.result c.run_here-fault.ensures.fault c.run_here-fault.ensures.memory
    c.args.partials.now c.merge_owned.new.partials c.merge_owned.ensures (stop_in c.args.kept.now) (stop_in c.note.new.kept) c.note.ensures

pub put_places-requires-clause-here : goal.put_places-requires-clause-here
put_places-requires-clause-here c =
    λ k d lt. (
      c.args.local.now.part.now.cells,
      omega arith,
      locals_here c.args.local.now c.requires.is.sound c.requires.is c.steps_stand.ensures c.args.place c.requires.step c.windows_stand.ensures.here k d lt,
    )
