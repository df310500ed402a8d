use Rattle.std.proofs.Common.{◌+◌, ap, sym, subst, ◌∙◌}
use Rattle.schedule_steps.specs.declared.step.Step.TheVariants.{Recv}
use Rattle.schedule_model.specs.Flat.{flat_step}
use Rattle.rank_state.specs.Shows.{Shows}
use Rattle.kernel_model.specs.declared.types.faults.KernelFault.{KernelFault}
use Rattle.rank_state.specs.Machine.{State}
use Rattle.rank_program.specs.Sound.{setup_in, layout_in, tables_in}
use Rattle.rank_machine.proofs.messages.recv_on.Goals as goal

pub returns-clause-mail : goal.returns-clause-mail
returns-clause-mail c =
    ap (λ (s : State KernelFault). s.mail.left) c.recv.ensures
    ∙ ap (λ n. c.args.machine.now.mail.left + n)
    (c.steps_can.ensures.imports (setup_in c.args.program.now) (layout_in c.args.program.now) (tables_in c.args.program.now) c.args.item
    c.args.from c.args.rank c.args.spans.now c.requires.are)

pub returns-clause-shows : goal.returns-clause-shows
returns-clause-shows c f h =
    subst (λ (s : State KernelFault). Shows (setup_in c.args.program.now) (layout_in c.args.program.now) (tables_in c.args.program.now) s
    (flat_step (setup_in c.args.program.now) (layout_in c.args.program.now) (Recv c.args.item c.args.rank c.args.from) f))
    (sym c.recv.ensures)
    (c.recv_shows.ensures (setup_in c.args.program.now) (layout_in c.args.program.now) (tables_in c.args.program.now)
    c.is_sound.ensures.indexed c.args.item c.args.rank c.args.from c.requires.planned.3 c.args.spans.now c.requires.are c.args.machine.now
    f h c.requires.oldest)
