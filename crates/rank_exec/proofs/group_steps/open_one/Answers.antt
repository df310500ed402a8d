use Rattle.std.proofs.Common.{◌≡◌, ◌∙◌, ◌-◌, sym, ap, subst, arith}
use Rattle.kernel_model.specs.declared.types.faults.KernelFault.{KernelFault}
use Rattle.schedule_steps.specs.declared.step.Step.TheVariants.{Begin}
use Rattle.schedule_model.specs.Flat.{flat_step}
use Rattle.rank_state.specs.Machine.{State, begun, begun_as}
use Rattle.rank_state.specs.Shows.{Shows}
use Rattle.rank_program.specs.Sound.{setup_in, layout_in, tables_in}
use Rattle.rank_exec.proofs.group_steps.open_one.Goals as goal

opened_as : (c : goal.After-open) → c.open.new.self ≡ begun (layout_in c.args.program.now).core (tables_in c.args.program.now).constants
    c.args.begin.item c.args.begin.rank c.args.begin.place
    ((layout_in c.args.program.now).original c.args.begin.item c.args.begin.rank c.args.begin.place) c.requires.ran.spans
    c.requires.ran.scalars c.args.machine.now
opened_as c =
    c.open.ensures ((layout_in c.args.program.now).original c.args.begin.item c.args.begin.rank c.args.begin.place)
    ∙ ap (λ ran. begun_as c.args.begin.item c.args.begin.rank c.args.begin.place
    ((layout_in c.args.program.now).original c.args.begin.item c.args.begin.rank c.args.begin.place) ran c.args.machine.now)
    (sym (c.requires.ran.left (c.is_zero.ensures c.if-is_zero.true)))

pub returns-then-is_zero-clause-shows : goal.returns-then-is_zero-clause-shows
returns-then-is_zero-clause-shows c f h =
    subst (λ (s : State KernelFault). Shows (setup_in c.args.program.now) (layout_in c.args.program.now) (tables_in c.args.program.now) s
    (flat_step (setup_in c.args.program.now) (layout_in c.args.program.now)
    (Begin c.args.begin.item c.args.begin.rank c.args.begin.place) f)) (sym (opened_as c))
    (c.begin_shows.ensures (setup_in c.args.program.now) (layout_in c.args.program.now) (tables_in c.args.program.now)
    c.is_sound.ensures.indexed c.is_sound.ensures.layout c.args.begin.item c.args.begin.rank c.args.begin.place c.requires.planned
    c.requires.ran.spans c.requires.ran.scalars c.requires.ran.are c.args.machine.now f h c.requires.shut)

pub returns-then-is_zero-clause-mail : goal.returns-then-is_zero-clause-mail
returns-then-is_zero-clause-mail c = ap (λ (s : State KernelFault). s.mail.left) (opened_as c)

pub returns-then-is_zero-clause-frames : goal.returns-then-is_zero-clause-frames
returns-then-is_zero-clause-frames c =
    let e : c.open.new.self.frames.left ≡ c.args.machine.now.frames.left - 1 = ap (λ (s : State KernelFault). s.frames.left) (opened_as c) in
    omega (arith, e, c.requires.room)
