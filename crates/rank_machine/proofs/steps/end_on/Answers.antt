use Rattle.std.proofs.Common.{◌≡◌, sym, ap, subst, ◌∙◌}
use Rattle.std.specs.Prelude.{◌==◌}
use Rattle.kernel_model.specs.declared.types.faults.KernelFault.{KernelFault}
use Rattle.schedule_steps.specs.declared.step.Step.TheVariants.{End}
use Rattle.schedule_model.specs.Flat.{flat_step}
use Rattle.rank_state.specs.Machine.{State, ended}
use Rattle.rank_state.specs.Shows.{Shows}
use Rattle.rank_program.specs.Sound.{setup_in, layout_in, tables_in}
use Rattle.rank_machine.proofs.steps.end_on.Goals as goal

pub end-requires-clause-slots : goal.end-requires-clause-slots
end-requires-clause-slots c =
    (c.steps_can.ensures.end (setup_in c.args.program.now) (layout_in c.args.program.now) (tables_in c.args.program.now) c.args.machine.now
    c.requires.shows.0 c.requires.shows.1 c.is_sound.ensures.indexed c.args.item c.args.rank c.args.place c.requires.planned
    c.args.windows.now.spans.now c.args.windows.now.scalars.now c.requires.are c.requires.«open»).slots

pub end-requires-clause-enough : goal.end-requires-clause-enough
end-requires-clause-enough c =
    (c.steps_can.ensures.end (setup_in c.args.program.now) (layout_in c.args.program.now) (tables_in c.args.program.now) c.args.machine.now
    c.requires.shows.0 c.requires.shows.1 c.is_sound.ensures.indexed c.args.item c.args.rank c.args.place c.requires.planned
    c.args.windows.now.spans.now c.args.windows.now.scalars.now c.requires.are c.requires.«open»).enough

pub end-requires-clause-exact : goal.end-requires-clause-exact
end-requires-clause-exact c =
    (c.steps_can.ensures.end (setup_in c.args.program.now) (layout_in c.args.program.now) (tables_in c.args.program.now) c.args.machine.now
    c.requires.shows.0 c.requires.shows.1 c.is_sound.ensures.indexed c.args.item c.args.rank c.args.place c.requires.planned
    c.args.windows.now.spans.now c.args.windows.now.scalars.now c.requires.are c.requires.«open»).exact

pub returns-clause-shows : goal.returns-clause-shows
returns-clause-shows c f h =
    let own : c.owns_at-own.result ≡
    ((setup_in c.args.program.now).owner ((setup_in c.args.program.now).program.set c.args.item)
    ((layout_in c.args.program.now).original c.args.item c.args.rank c.args.place) == c.args.rank) =
    c.owns_at-own.ensures in
    subst (λ (s : State KernelFault). Shows (setup_in c.args.program.now) (layout_in c.args.program.now) (tables_in c.args.program.now) s
    (flat_step (setup_in c.args.program.now) (layout_in c.args.program.now) (End c.args.item c.args.rank c.args.place) f))
    (sym (c.end.ensures ∙ ap (λ o. ended o c.args.rank c.args.place c.args.windows.now.spans.now c.args.windows.now.scalars.now c.args.machine.now) own))
    (c.end_shows.ensures (setup_in c.args.program.now) (layout_in c.args.program.now) (tables_in c.args.program.now)
    c.is_sound.ensures.indexed c.args.item c.args.rank c.args.place c.requires.planned c.args.windows.now.spans.now
    c.args.windows.now.scalars.now c.requires.are c.args.machine.now f h c.requires.«open»)
