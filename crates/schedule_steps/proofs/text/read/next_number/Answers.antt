use Rattle.std.proofs.Common.{Err, ap, sym, inr}
use Rattle.schedule_steps.specs.declared.text.refusals.ScheduleTextRefusal.TheVariants.{OutOfMemory}
use Rattle.schedule_steps.specs.Reading.{Numbers, step, finish}
use Rattle.op_num.proofs.Public.{run_end, passes_on}
use Rattle.schedule_steps.proofs.text.Running.{number_leads}
use Rattle.schedule_steps.proofs.text.read.next_number.Goals as goal

pub returns-in_err-next_in_body-clause-leads : goal.returns-in_err-next_in_body-clause-leads
returns-in_err-next_in_body-clause-leads c ls line b =
    passes_on step finish OutOfMemory (Numbers ls line b) _ _ _ _ _ c.from_residual.ensures.1
    (inr (run_end step finish (Numbers ls line b) _ _ c.in_err-next_in_body.ensures.none.0
    (ap Err (sym c.in_err-next_in_body.ensures.none.1))))

pub returns-clause-leads : goal.returns-clause-leads
returns-clause-leads c ls line b = number_leads ls line b _ _ c.in_ok-next_in_body.field-0 c.number_value.result c.in_ok-next_in_body.ensures.some c.number_value.ensures
