use Rattle.std.proofs.Common.{◌≡◌, sym, ap, ap₂, subst, ◌∙◌, ◌+◌, length}
use Rattle.kernel_model.specs.declared.types.faults.KernelFault.{KernelFault}
use Rattle.schedule_steps.specs.declared.step.Step.TheVariants.{Begin}
use Rattle.schedule_model.specs.Flat.{flat_step}
use Rattle.rank_state.specs.Indices.{values_at}
use Rattle.rank_state.specs.Machine.{State, begun, begun_as, windows_of}
use Rattle.rank_state.specs.Shows.{Shows}
use Rattle.schedule_model.specs.Program.{is_loop}
use Rattle.rank_state.specs.Spans.{total}
use Rattle.rank_machine.proofs.Values.{count_values}
use Rattle.rank_program.specs.Sound.{Takes, setup_in, layout_in, tables_in}
use Rattle.rank_program.specs.ProgramLaws.{each_runs}
use Rattle.rank_machine.proofs.steps.begin_on.Goals as goal

pub returns-clause-shows : goal.returns-clause-shows
returns-clause-shows c f h =
    let same : c.begin.new.self ≡ begun (layout_in c.args.program.now).core (tables_in c.args.program.now).constants c.args.element.item
    c.args.element.rank c.args.element.place
    ((layout_in c.args.program.now).original c.args.element.item c.args.element.rank c.args.element.place) c.args.windows.now.spans.now
    c.args.windows.now.scalars.now c.args.machine.now =
    c.begin.ensures.state ∙ ap₂ (λ e r. begun_as c.args.element.item c.args.element.rank c.args.element.place e r c.args.machine.now)
    c.requires.original (ap (λ v. (layout_in c.args.program.now).core c.args.element.item c.args.element.original v
    (windows_of c.args.machine.now c.args.element.rank c.args.windows.now.spans.now c.args.windows.now.scalars.now)) c.requires.values
    ∙ ap (λ e. (layout_in c.args.program.now).core c.args.element.item e
    (values_at c.args.machine.now.variables (tables_in c.args.program.now).constants)
    (windows_of c.args.machine.now c.args.element.rank c.args.windows.now.spans.now c.args.windows.now.scalars.now))
    c.requires.original) in
    subst (λ (s : State KernelFault). Shows (setup_in c.args.program.now) (layout_in c.args.program.now) (tables_in c.args.program.now) s
    (flat_step (setup_in c.args.program.now) (layout_in c.args.program.now)
    (Begin c.args.element.item c.args.element.rank c.args.element.place) f)) (sym same)
    (c.begin_shows.ensures (setup_in c.args.program.now) (layout_in c.args.program.now) (tables_in c.args.program.now)
    c.is_sound.ensures.indexed c.is_sound.ensures.layout c.args.element.item c.args.element.rank c.args.element.place c.requires.planned
    c.args.windows.now.spans.now c.args.windows.now.scalars.now c.requires.are c.args.machine.now f h c.requires.shut)

pub begin-requires-clause-takes : goal.begin-requires-clause-takes
begin-requires-clause-takes c =
    let w = c.windows_are_counted.ensures.elements (setup_in c.args.program.now) (layout_in c.args.program.now) c.is_sound.ensures.layout
    c.args.element.item c.args.element.rank c.args.element.place c.requires.planned in
    subst (λ e. Takes c.args.program.now c.args.element.item e (length c.args.constants.now) (total c.args.windows.now.spans.now + length c.args.windows.now.scalars.now)) (sym c.requires.original)
    (subst (λ n. Takes c.args.program.now c.args.element.item
    ((layout_in c.args.program.now).original c.args.element.item c.args.element.rank c.args.element.place) n
    (total c.args.windows.now.spans.now + length c.args.windows.now.scalars.now))
    (sym (ap length c.requires.values ∙ count_values (tables_in c.args.program.now).constants c.args.machine.now.variables))
    (subst (Takes c.args.program.now c.args.element.item
    ((layout_in c.args.program.now).original c.args.element.item c.args.element.rank c.args.element.place)
    (length (tables_in c.args.program.now).constants))
    (sym (c.windows_are_counted.ensures.windows (setup_in c.args.program.now) (layout_in c.args.program.now)
    (tables_in c.args.program.now) c.args.element.item c.args.element.rank c.args.element.place c.args.windows.now.spans.now
    c.args.windows.now.scalars.now c.requires.are))
    (each_runs c.args.program.now c.args.element.item ((layout_in c.args.program.now).original c.args.element.item c.args.element.rank c.args.element.place) (ap is_loop w.0) w.1)))
