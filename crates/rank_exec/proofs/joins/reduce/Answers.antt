use Rattle.std.proofs.Common.{sym, subst}
use Rattle.kernel_model.specs.declared.types.faults.KernelFault.{KernelFault}
use Rattle.schedule_steps.specs.declared.step.Step.TheVariants.{Join}
use Rattle.schedule_model.specs.Flat.{flat_step}
use Rattle.rank_state.specs.Machine.{State}
use Rattle.rank_state.specs.Shows.{Shows}
use Rattle.rank_program.specs.Sound.{setup_in, layout_in, tables_in}
use Rattle.rank_exec.proofs.joins.reduce.Goals as goal

pub returns-clause-shows : goal.returns-clause-shows
returns-clause-shows c f h =
    subst (λ (s : State KernelFault). Shows (setup_in c.args.program.now) (layout_in c.args.program.now) (tables_in c.args.program.now) s
    (flat_step (setup_in c.args.program.now) (layout_in c.args.program.now) (Join c.args.item) f)) (sym c.reduce.ensures)
    (c.join_shows.ensures.reduces (setup_in c.args.program.now) (layout_in c.args.program.now) (tables_in c.args.program.now)
    c.args.machine.now f h c.args.item c.requires.going c.requires.kind c.reduced_scalars.result.now c.reduced_scalars.ensures)

pub reduce-requires-clause-rows : goal.reduce-requires-clause-rows
reduce-requires-clause-rows c =
    (c.steps_can.ensures.reduce (setup_in c.args.program.now) (layout_in c.args.program.now) (tables_in c.args.program.now)
    c.args.machine.now c.requires.shows.0 c.requires.shows.1 c.args.item c.reduced_scalars.result.now
    c.reduced_scalars.ensures.are_scalars).rows
