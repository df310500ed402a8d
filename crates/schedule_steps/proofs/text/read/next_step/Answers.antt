use Rattle.std.proofs.Common.{[], ◌∷◌, ◌++◌, Some, None, Ok, Err, ap, sym, ◌∙◌, inr}
use Rattle.schedule_steps.specs.declared.text.refusals.ScheduleTextRefusal.TheVariants.{OutOfMemory}
use Rattle.schedule_steps.specs.Spelling.{at_line}
use Rattle.schedule_steps.specs.Reading.{First, Between, Numbers, step, finish, run_from}
use Rattle.op_num.proofs.Public.{run_end, passes_on, further}
use Rattle.schedule_steps.proofs.text.Running.{word_taken, word_refused}
use Rattle.schedule_steps.proofs.text.read.next_step.Goals as goal

pub returns-in_err-token-clause-leads : goal.returns-in_err-token-clause-leads
returns-in_err-token-clause-leads c ls n =
    passes_on step finish OutOfMemory (Between ls) _ _ _ _ _ c.from_residual.ensures.1
    (inr (run_end step finish (Between ls) _ _ c.in_err-token.ensures.none.0 (ap Err (sym c.in_err-token.ensures.none.1))))

pub returns-in_err-step_word-clause-leads : goal.returns-in_err-step_word-clause-leads
returns-in_err-step_word-clause-leads c ls n =
    passes_on step finish OutOfMemory (Between ls) _ _ _ _ _ c.from_residual-in_err-step_word.ensures.1
    (inr (word_refused ls c.args.count _ _ c.in_ok-token.token _ n c.in_ok-token.ensures.some c.in_err-step_word.ensures))

pub returns-in_err-step-in-Some-clause-leads : goal.returns-in_err-step-in-Some-clause-leads
returns-in_err-step-in-Some-clause-leads c ls n =
    passes_on step finish OutOfMemory (Between ls) _ _ _ _ _ c.from_residual-in_err-step-in-Some.ensures.1
    (further step finish OutOfMemory (Between ls) (Numbers ls c.in_ok-token.token.line (First c.in-Some.word)) _ _ _
    (word_taken ls c.args.count _ _ c.in_ok-token.token (Some c.in-Some.word) n c.in_ok-token.ensures.some (sym (ap Ok c.in-Some.is) ∙ c.in_ok-step_word.ensures))
    (c.in_err-step-in-Some.ensures.leads ls c.in_ok-token.token.line))

pub returns-in-None-clause-leads : goal.returns-in-None-clause-leads
returns-in-None-clause-leads c ls n = word_taken ls c.args.count _ _ c.in_ok-token.token None n c.in_ok-token.ensures.some (sym (ap Ok c.in-None.is) ∙ c.in_ok-step_word.ensures)

pub returns-in_ok-step-in-Some-clause-leads : goal.returns-in_ok-step-in-Some-clause-leads
returns-in_ok-step-in-Some-clause-leads c ls n =
    word_taken ls c.args.count _ _ c.in_ok-token.token (Some c.in-Some.word) n c.in_ok-token.ensures.some (sym (ap Ok c.in-Some.is) ∙ c.in_ok-step_word.ensures)
    ∙ c.in_ok-step-in-Some.ensures.leads ls c.in_ok-token.token.line
    ∙ ap (λ m. run_from (Between (ls ++ at_line c.in_ok-step-in-Some.step m ∷ [])) c.read_numbers.new.tokens) (sym c.line.ensures)
