use Rattle.std.proofs.Common.{◌≡◌, ◌-◌, length, sym, ap, subst, arith}
use Rattle.kernel_model.specs.declared.types.faults.KernelFault.{KernelFault}
use Rattle.schedule_steps.specs.declared.step.Step.TheVariants.{Send}
use Rattle.schedule_model.specs.Flat.{flat_step}
use Rattle.rank_state.specs.Spans.{total, gathered}
use Rattle.rank_state.specs.Machine.{State, row}
use Rattle.rank_state.specs.Shows.{Shows}
use Rattle.rank_state.proofs.Public.{gathered_length}
use Rattle.rank_program.specs.Sound.{setup_in, layout_in, tables_in}
use Rattle.rank_machine.proofs.messages.send_on.Goals as goal

pub send-requires-clause-room : goal.send-requires-clause-room
send-requires-clause-room c =
    let e : total c.args.spans.now ≡ length ((layout_in c.args.program.now).exports c.args.item c.args.from c.args.to) =
    c.steps_can.ensures.exports (setup_in c.args.program.now) (layout_in c.args.program.now) (tables_in c.args.program.now) c.args.item
    c.args.from c.args.to c.args.from c.args.spans.now c.requires.are in
    omega (arith, c.requires.room)

pub returns-clause-shows : goal.returns-clause-shows
returns-clause-shows c f h =
    subst (λ (s : State KernelFault). Shows (setup_in c.args.program.now) (layout_in c.args.program.now) (tables_in c.args.program.now) s
    (flat_step (setup_in c.args.program.now) (layout_in c.args.program.now) (Send c.args.item c.args.from c.args.to) f))
    (sym c.send.ensures)
    (c.send_shows.ensures (setup_in c.args.program.now) (layout_in c.args.program.now) (tables_in c.args.program.now)
    c.is_sound.ensures.indexed c.args.item c.args.from c.args.to c.requires.planned.2 c.args.spans.now c.requires.are c.args.machine.now f
    h)

pub returns-clause-mail : goal.returns-clause-mail
returns-clause-mail c =
    let e : total c.args.spans.now ≡ length ((layout_in c.args.program.now).exports c.args.item c.args.from c.args.to) =
    c.steps_can.ensures.exports (setup_in c.args.program.now) (layout_in c.args.program.now) (tables_in c.args.program.now) c.args.item
    c.args.from c.args.to c.args.from c.args.spans.now c.requires.are in
    let can = c.steps_can.ensures.copy (setup_in c.args.program.now) (layout_in c.args.program.now) (tables_in c.args.program.now)
    c.args.machine.now c.requires.shows.0 c.requires.shows.1 c.args.from c.args.spans.now c.requires.planned.2 c.requires.are.within in
    let n : length (gathered (row c.args.machine.now.memories c.args.from) c.args.spans.now) ≡ total c.args.spans.now =
    gathered_length (row c.args.machine.now.memories c.args.from) c.args.spans.now can.inside in
    let left : c.send.new.self.mail.left ≡ c.args.machine.now.mail.left - length
    (gathered (row c.args.machine.now.memories c.args.from) c.args.spans.now) =
    ap (λ (s : State KernelFault). s.mail.left) c.send.ensures in
    omega (arith, c.requires.room)
