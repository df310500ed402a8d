use Rattle.std.proofs.Common.{sym, ap, ◌∙◌, length}
use Rattle.schedule_steps.specs.declared.step.Step.TheVariants.{Send}
use Rattle.schedule_steps.specs.Standard.{standard}
use Rattle.schedule_model.specs.Layout.{by_place}
use Rattle.rank_state.specs.Spans.{total}
use Rattle.rank_program.specs.Sound.{program_in, plan_in, setup_in, layout_in, outline_in}
use Rattle.rank_exec.proofs.planned_run.Messages.{same_steps, cells_counted}
use Rattle.rank_exec.proofs.planned_run.rooms.cells_in_message.Goals as goal

pub push_sent-requires-clause-step : goal.push_sent-requires-clause-step
push_sent-requires-clause-step c =
    let x = c.args.program.now in
    let s = c.is_sound.ensures in
    let all = c.standard_is_accepted.ensures (outline_in x) 1 in
    let here = (c.plans_are_by_place.ensures.accept (program_in x) x.owners.now s.numbers x.meshes.now (plan_in x) s.planned (standard (outline_in x) 1)).0 all in
    same_steps (outline_in x) (by_place (setup_in x) (layout_in x)) (standard (outline_in x) 1) all here (Send c.args.item c.args.from c.args.to) c.requires.step

pub returns-clause-cells : goal.returns-clause-cells
returns-clause-cells c =
    let x = c.args.program.now in
    c.in_ok-cells.ensures ∙ (ap total c.deref.ensures.value
    ∙ (sym (cells_counted ((layout_in x).cell_at c.args.from) c.push_sent.new.spans.items) ∙ sym (ap length c.push_sent.ensures.are.cells)))
