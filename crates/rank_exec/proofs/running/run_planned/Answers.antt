use Rattle.std.proofs.Common.{◌≡◌, ℤ, List, map, ap, sym, subst, ◌∙◌}
use Rattle.bound_program.specs.Values.{var_of}
use Rattle.kernel_model.specs.declared.types.faults.KernelFault.{KernelFault}
use Rattle.schedule_model.specs.Flat.{Flat, StartsFlat}
use Rattle.bound_plan.specs.Starts.{first_flat}
use Rattle.bound_plan.specs.Memories.{dump_of}
use Rattle.rank_state.specs.Starting.{AreFirst}
use Rattle.rank_state.specs.Shows.{Shows}
use Rattle.rank_layout.specs.First.{first_cells, first_variables}
use Rattle.rank_exec.specs.Runs.{dump_in}
use Rattle.rank_program.specs.declared.program.DistributedProgram.{DistributedProgram}
use Rattle.rank_program.specs.Sound.{program_in, plan_in, setup_in, layout_in, tables_in}
use Rattle.rank_exec.proofs.Held.{are_held}
use Rattle.rank_exec.proofs.SameStart.{same_start}
use Rattle.rank_exec.proofs.running.run_planned.Goals as goal

pub first_memories-requires : goal.first_memories-requires
first_memories-requires g c = λ k d lt.
    let p = c.parts-parts.result.now in
    let s = c.parts-parts.ensures.sound in
    c.first_cells_stand.ensures.closed (program_in p) p.owners.now s.numbers p.meshes.now (plan_in p) s.planned k d lt

pub start-requires-clause-first : goal.start-requires-clause-first
start-requires-clause-first g c =
    let x = c.args.program.now in
    let s = c.is_sound.ensures in
    let first = c.first_cells_stand.ensures.stand (program_in x) x.owners.now s.numbers x.meshes.now (plan_in x) s.planned in
    let vars : c.in_ok-variables.variables.items ≡ first_variables (program_in x).vars =
    c.in_ok-variables.ensures ∙ ap (λ vs. first_variables (map var_of vs)) c.deref.ensures.value
    ∙ ap (λ (d : DistributedProgram). first_variables (program_in d).vars) c.parts-parts.ensures.are in
    let cells = c.in_ok-memories.ensures.cells ∙ ap (λ (d : DistributedProgram). map (first_cells (program_in d).mesh) d.meshes.now) c.parts-parts.ensures.are in
    subst (λ (ms : List (List ℤ)). AreFirst (setup_in x) (layout_in x) (tables_in x) ms c.in_ok-variables.variables.items) (sym cells)
    (subst (AreFirst (setup_in x) (layout_in x) (tables_in x) (map (first_cells (program_in x).mesh) x.meshes.now)) (sym vars) first)

pub drive-requires-clause-lawful : goal.drive-requires-clause-lawful
drive-requires-clause-lawful g c κs within =
    let x = c.args.program.now in
    c.setups_are_lawful.ensures (program_in x) x.owners.now c.is_sound.ensures.numbers x.meshes.now (plan_in x)
    (record { planned = c.is_sound.ensures.planned; obey = c.is_sound.ensures.obey; start = c.requires.start })

pub drive-requires-clause-coloured : goal.drive-requires-clause-coloured
drive-requires-clause-coloured g c κs within =
    let x = c.args.program.now in
    c.setups_are_coloured.ensures (program_in x) x.owners.now c.is_sound.ensures.numbers x.meshes.now (plan_in x) c.is_sound.ensures.planned

pub drive-requires-clause-accepted : goal.drive-requires-clause-accepted
drive-requires-clause-accepted g c κs within =
    let x = c.args.program.now in
    (c.plans_are_by_place.ensures.accept (program_in x) x.owners.now c.is_sound.ensures.numbers x.meshes.now (plan_in x)
    c.is_sound.ensures.planned (g.S.Steps.left c.args.steps.now)).0 c.requires.accepted

pub outcome_of-requires-clause-ended : goal.outcome_of-requires-clause-ended
outcome_of-requires-clause-ended g c = c.in_ok-stop.ensures.same

pub outcome_of-requires-clause-held : goal.outcome_of-requires-clause-held
outcome_of-requires-clause-held g c none =
    let x = c.args.program.now in
    let s = c.is_sound.ensures in
    let started = c.in_ok-machine.ensures.starts in
    are_held (program_in x) x.owners.now s.numbers x.meshes.now (plan_in x) s.planned (tables_in x) c.drive.new.machine
    (c.in_ok-stop.ensures.shows none started.0 started.1 started.2).sized

pub returns : goal.returns
returns g c =
    let x = c.args.program.now in
    let s = c.is_sound.ensures in
    let started = c.in_ok-machine.ensures.starts in
    let first : Flat KernelFault = first_flat (setup_in x) (layout_in x) in
    let first_starts : StartsFlat (setup_in x) (layout_in x) first = c.first_states_start.ensures (setup_in x) (layout_in x) in
    let shown : Shows (setup_in x) (layout_in x) (tables_in x) c.in_ok-machine.machine first =
    same_start (setup_in x) (layout_in x) (tables_in x) started.0 first started.1 first_starts c.in_ok-machine.machine started.2 in
    c.in_ok-outcome.ensures
    (dump_of c.args.dumps (program_in x) x.owners.now x.meshes.now (plan_in x) (g.S.Steps.left c.args.steps.now))
    (λ none. ap (dump_in c.args.dumps x) (sym (c.in_ok-stop.ensures.shows none first first_starts shown).memories))
