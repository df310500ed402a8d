use Rattle.std.proofs.Common.{None}
use Rattle.op_outside.specs.Outside.{Rose}
use Rattle.job_inputs.proofs.Public.{answers_always}
use Rattle.bound_program.specs.Values.{bound_of}
use Rattle.job_inputs.specs.Plans.{planned_of}
use Rattle.tool_words.specs.Values.{picture_of}
use Rattle.tool_command.specs.ToolAnswers.{GridOver, GridAnswers}
use Rattle.tool_command.proofs.pictures.gridded.Goals as goal

pub returns-in-Some : goal.returns-in-Some
returns-in-Some g c = rw c.in-Some.is c.gridded_from.ensures

pub returns-in-None : goal.returns-in-None
returns-in-None g c =
    rw c.in-None.is (answers_always (g.F.Shelf.told c.args.shelf.now) (Rose (g.F.Shelf.faults c.args.shelf.now) (g.F.Shelf.faults c.args.shelf.now)) c.args.kept.now
    (GridOver (picture_of c.args.picture) (bound_of c.args.planned.now.bound) (planned_of c.args.planned.now) None)
    (λ files. GridAnswers (picture_of c.args.picture) None files (bound_of c.args.planned.now.bound) (planned_of c.args.planned.now)) c.gridded_over.result
    (λ files a h. h) c.gridded_over.ensures)
