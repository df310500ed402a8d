use Rattle.std.proofs.Common.{sym, subst, ◌∙◌}
use Rattle.bound_program.specs.Values.{bound_of}
use Rattle.command_words.specs.Halts.{StopsWhere}
use Rattle.op2_command.specs.Chains.{CanRefuse, SaysFirst}
use Rattle.op2_command.proofs.Refusing.{can_refuse, step_refused}
use Rattle.op2_command.proofs.schedules.judged.Goals as goal

pub unaccepted-requires : goal.unaccepted-requires
unaccepted-requires c =
    let u = c.in-Err.refused in
    let x = rw c.in-Err.is at c.in_ok-peak.ensures.unaccepted in
    subst (λ z. CanRefuse z u.refusal) (sym c.line_at.ensures)
    (can_refuse (bound_of c.args.planned.now.bound) c.args.planned.now.distribution.ranks.items c.args.planned.now.plan c.args.lines.now c.deref.result.now x.0 u
    (c.deref.ensures.value ∙ c.in_ok-steps.ensures)
    x.1)

pub returns-clause-err : goal.returns-clause-err
returns-clause-err c =
    let u = c.in-Err.refused in
    let x = rw c.in-Err.is at c.in_ok-peak.ensures.unaccepted in
    step_refused (bound_of c.args.planned.now.bound) c.args.planned.now.distribution.ranks.items c.args.planned.now.plan c.args.lines.now c.deref.result.now x.0 c.args.end u c.unaccepted.result
    (c.deref.ensures.value ∙ c.in_ok-steps.ensures)
    x.1
    (subst (λ z. StopsWhere (SaysFirst z c.args.end u.refusal) c.unaccepted.result) c.line_at.ensures c.unaccepted.ensures)
