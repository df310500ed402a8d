use Rattle.std.proofs.Common.{ap, ◌∙◌}
use Rattle.command_words.specs.Lines.{done}
use Rattle.loop_plan.specs.Values.{plan_of}
use Rattle.plan_counts.specs.Table.{counts_text}
use Rattle.bound_program.specs.Values.{bound_of}
use Rattle.loop_plan.specs.Planned.{PlannedValue}
use Rattle.tool_command.proofs.counts.counted.Goals as goal

pub write_counts-requires-clause-ranks : goal.write_counts-requires-clause-ranks
write_counts-requires-clause-ranks c =
    let d = c.planned.inside.distribution in
    let h = c.planned.invariant in
    rw c.deref.ensures.value (d.halos, record { owners = d.owners; numbers = h.numbers; are_halos = h.are_halos; distributed = h.distributed })

pub returns : goal.returns
returns c =
    let p = c.planned.inside in
    ap done (c.in_ok-text.ensures
    ∙ ap (λ ranks. counts_text c.args.plain (bound_of p.bound.now) ranks (plan_of p.plan)) c.deref.ensures.value
    ∙ ap (λ (v : PlannedValue). counts_text c.args.plain (bound_of v.bound) v.distribution.ranks.items v.plan) c.planned.view_is)
