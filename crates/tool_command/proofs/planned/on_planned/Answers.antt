use Rattle.std.proofs.Common.{◌≡◌, Option, Result, sym, subst, ap}
use Rattle.op_outside.specs.Outside.{Files, Rose}
use Rattle.job_inputs.specs.Readings.{Readings}
use Rattle.bound_program.specs.Values.{BoundValue, bound_of}
use Rattle.command_words.specs.Lines as lines
use Rattle.command_words.specs.declared.answer_lines.call_answer.Answer.{Answer}
use Rattle.command_words.specs.declared.answer_lines.refusals.Halt.{Halt}
use Rattle.answers.specs.Judgements.{Planned}
use Rattle.job_inputs.specs.Chains.{AnswersBy, AnswersFrom}
use Rattle.job_inputs.proofs.Public.{answers_always}
use Rattle.job_inputs.specs.Plans.{planned_of}
use Rattle.tool_words.specs.Words as words
use Rattle.tool_words.specs.Words.{TellsOwners, Counts, Draws}
use Rattle.tool_words.specs.Values.{picture_of, plan_job_of}
use Rattle.tool_words.specs.declared.asked.PlanJob.{PlanJob}
use Rattle.tool_command.specs.ToolAnswers.{OnPlanned, OwnersTold, CountAnswers, DrawAnswers}
use Rattle.tool_command.proofs.planned.on_planned.Goals as goal

-- what a job answers of a plan is what is asked for
answered : (told : Option Files) (kept : Readings) (b : BoundValue) (p : Planned) (rose : Type 0) (r : Result Answer Halt) (j : PlanJob)
    (x : words.PlanJob) (Q : lines.Answer → Type 0)
    → plan_job_of j ≡ x
    → ((files : Files) (a : lines.Answer) → Q a → OnPlanned x b files p a)
    → AnswersBy Q r
    → AnswersFrom told kept (λ files. OnPlanned (plan_job_of j) b files p) rose r
answered told kept b p rose r j x Q is same h =
    subst (λ z. AnswersFrom told kept (λ files. OnPlanned z b files p) rose r) (sym is)
    (answers_always told rose kept Q (λ files. OnPlanned x b files p) r same h)

pub returns-in-TellsOwners : goal.returns-in-TellsOwners
returns-in-TellsOwners g c =
    answered (g.F.Shelf.told c.args.shelf.now) c.args.kept.now (bound_of c.args.planned.now.bound) (planned_of c.args.planned.now)
    (Rose (g.F.Shelf.faults c.args.shelf.now) (g.F.Shelf.faults c.args.shelf.now)) c.told.result c.args.job TellsOwners
    (OwnersTold (bound_of c.args.planned.now.bound) (planned_of c.args.planned.now).distribution.owners) (ap plan_job_of c.in-TellsOwners.is) (λ files a k. k)
    c.told.ensures

pub returns-in-Counts : goal.returns-in-Counts
returns-in-Counts g c =
    answered (g.F.Shelf.told c.args.shelf.now) c.args.kept.now (bound_of c.args.planned.now.bound) (planned_of c.args.planned.now)
    (Rose (g.F.Shelf.faults c.args.shelf.now) (g.F.Shelf.faults c.args.shelf.now)) c.counted.result c.args.job (Counts c.in-Counts.plain)
    (CountAnswers c.in-Counts.plain (bound_of c.args.planned.now.bound) (planned_of c.args.planned.now)) (ap plan_job_of c.in-Counts.is) (λ files a k. k)
    c.counted.ensures

pub returns-in-Draws : goal.returns-in-Draws
returns-in-Draws g c =
    answered (g.F.Shelf.told c.args.shelf.now) c.args.kept.now (bound_of c.args.planned.now.bound) (planned_of c.args.planned.now)
    (Rose (g.F.Shelf.faults c.args.shelf.now) (g.F.Shelf.faults c.args.shelf.now)) c.drawn.result c.args.job
    (Draws (picture_of c.in-Draws.picture))
    (DrawAnswers (picture_of c.in-Draws.picture) (bound_of c.args.planned.now.bound) (planned_of c.args.planned.now)) (ap plan_job_of c.in-Draws.is)
    (λ files a k. k) c.drawn.ensures

pub gridded-requires-clause-lent : goal.gridded-requires-clause-lent
gridded-requires-clause-lent g c = rw c.in-Grids.is at c.requires.lent

pub gridded-requires-clause-next : goal.gridded-requires-clause-next
gridded-requires-clause-next g c = rw c.in-Grids.is at c.requires.next

pub returns-in-Grids : goal.returns-in-Grids
returns-in-Grids g c = rw c.in-Grids.is c.gridded.ensures
