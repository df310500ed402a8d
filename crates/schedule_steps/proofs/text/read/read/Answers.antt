use Rattle.std.proofs.Common.{◌≡◌, length, rules, ap, sym, ◌∙◌, inr}
use Rattle.schedule_steps.specs.Reading.{End, run_from, step, finish}
use Rattle.op_num.proofs.Public.{run_refused}
use Rattle.schedule_steps.specs.Answered.{next_state}
use Rattle.schedule_steps.proofs.text.Running.{step-end, run_done}
use Rattle.schedule_steps.proofs.text.read.read.Goals as goal

pub returns-in-None : goal.returns-in-None
returns-in-None c =
    let count : c.len.result ≡ length c.loop-lines.lines.items = search rules in
    c.loop-lines.invariant ∙ c.in_ok-line.ensures.leads c.loop-lines.lines.items count
    ∙ ap (λ o. run_from (next_state c.loop-lines.lines.items o) c.next_step.new.tokens) c.in_default.is
    ∙ run_done c.loop-lines.lines.items c.next_step.new.tokens (sym c.in-None.ensures.token)

pub returns-in-Some-next : goal.returns-in-Some-next
returns-in-Some-next c =
    let count : c.len.result ≡ length c.loop-lines.lines.items = search rules in
    rw c.line.ensures (inr (c.loop-lines.invariant ∙ c.in_ok-line.ensures.leads c.loop-lines.lines.items count
    ∙ ap (λ o. run_from (next_state c.loop-lines.lines.items o) c.next_step.new.tokens) c.in_default.is
    ∙ run_refused step finish (End c.loop-lines.lines.items) _ _ c.in-Some-next.token _
    (record { first = sym c.in-Some-next.ensures.token; rest = c.in-Some-next.ensures.rest })
    (step-end c.loop-lines.lines.items c.in-Some-next.token)))
