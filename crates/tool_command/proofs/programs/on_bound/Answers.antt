use Rattle.std.proofs.Common.{zero, arith}
use Rattle.op_outside.specs.Outside.{Rose}
use Rattle.bound_program.specs.Values.{bound_of}
use Rattle.job_inputs.proofs.Public.{answers_always}
use Rattle.tool_command.specs.ToolAnswers.{GraphAnswers}
use Rattle.tool_command.proofs.programs.on_bound.Goals as goal

pub returns-in-Picks : goal.returns-in-Picks
returns-in-Picks g c = rw c.in-Picks.is c.picked.ensures

pub returns-in-Graphs : goal.returns-in-Graphs
returns-in-Graphs g c =
    rw c.in-Graphs.is (answers_always (g.F.Shelf.told c.args.shelf.now) (Rose (g.F.Shelf.faults c.args.shelf.now) (g.F.Shelf.faults c.args.shelf.now)) c.args.kept.now
    (GraphAnswers c.in-Graphs.map.now (bound_of c.args.bound.now)) (λ files. GraphAnswers c.in-Graphs.map.now (bound_of c.args.bound.now)) c.graphed.result
    (λ files a h. h) c.graphed.ensures)

pub taken-requires-clause-lent : goal.taken-requires-clause-lent
taken-requires-clause-lent g c = let h = rw c.in-TakesOwners.is at c.requires.lent in h zero c.in-TakesOwners.file.now (omega arith)

pub taken-requires-clause-next : goal.taken-requires-clause-next
taken-requires-clause-next g c = rw c.in-TakesOwners.is at c.requires.next

pub taken-requires-clause-few : goal.taken-requires-clause-few
taken-requires-clause-few g c = rw c.in-TakesOwners.is at c.requires.few

pub returns-in-TakesOwners : goal.returns-in-TakesOwners
returns-in-TakesOwners g c = rw c.in-TakesOwners.is c.taken.ensures
