use Rattle.std.proofs.Common.{◌<◌, sym, subst, length, take, arith}
use Rattle.std.proofs.lemmas.List.{take_all}
use Rattle.kernel_model.specs.declared.types.faults.KernelFault.{KernelFault}
use Rattle.step_orders.specs.Alone.{alone}
use Rattle.rank_state.specs.Machine.{State}
use Rattle.rank_exec.specs.Driving.{Done}
use Rattle.rank_program.specs.AloneRuns.{Reaches, share_of}
use Rattle.rank_exec.proofs.AloneRuns.{all_begin, alone_can, runs_done}
use Rattle.rank_exec.proofs.Telling.{elements_ready, elements_done}
use Rattle.rank_program.specs.Sound.{setup_in, layout_in, tables_in}
use Rattle.rank_exec.proofs.told.run_told.Goals as goal

pub in_place-requires-clause-steps : goal.in_place-requires-clause-steps
in_place-requires-clause-steps g c κs within =
    let p = setup_in c.args.program.now in
    let l = layout_in c.args.program.now in
    let t = tables_in c.args.program.now in
    let k = c.args.of.item in
    let r = c.args.of.rank in
    all_begin p l t k r (c.in_place_shows.ensures p l t c.is_sound.ensures.indexed c.is_sound.ensures.layout k r) (c.is_sound.ensures.windowed k r) c.args.places.now c.args.machine.now
    (elements_ready p l t (c.places_stay_shut.ensures p l) c.args.of.alone k r c.args.places.now c.args.machine.now c.requires.shows.0 c.requires.shows.1 c.requires.ready)

pub returns-clause-done : goal.returns-clause-done
returns-clause-done g c =
    let p = setup_in c.args.program.now in
    let l = layout_in c.args.program.now in
    let t = tables_in c.args.program.now in
    let k = c.args.of.item in
    let r = c.args.of.rank in
    let xs = c.args.places.now in
    let old = c.args.machine.now in
    let ran = c.in_place.ensures.runs in
    let law = c.in_place_shows.ensures p l t c.is_sound.ensures.indexed c.is_sound.ensures.layout k r in
    let ready = elements_ready p l t (c.places_stay_shut.ensures p l) c.args.of.alone k r xs old c.requires.shows.0 c.requires.shows.1 c.requires.ready in
    let rank = (all_begin p l t k r law (c.is_sound.ensures.windowed k r) xs old ready 0 c.requires.some).2 in
    let sized = c.requires.shows.1.sized in
    let here : c.args.of.rank < length c.args.machine.now.memories = subst (λ n. c.args.of.rank < n) (sym sized.ranks) rank in
    let there : c.args.of.rank < length c.args.machine.now.partials = subst (λ n. c.args.of.rank < n) (sym sized.partials) rank in
    let reach = subst (λ vs. Reaches p l t k r vs old.variables xs (share_of r old) (length xs) ran.0) c.read_constants.ensures.values ran.1 in
    let done = runs_done p l t k r old here there law xs (alone_can p l t k r law (c.is_sound.ensures.windowed k r) xs old ready) (length xs) (omega arith) ran.0 reach in
    elements_done p l t c.args.of.alone k r xs old c.in_place.new.self c.requires.alone
    (subst (λ z. Done p l t (alone k r z) old c.in_place.new.self) (take_all (length xs) xs (omega arith))
    (subst (λ (s : State KernelFault). Done p l t (alone k r (take (length xs) xs)) old s) (sym ran.2) done))
