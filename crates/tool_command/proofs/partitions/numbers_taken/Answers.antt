use Rattle.std.proofs.Common.{inl}
use Rattle.bound_program.specs.Values.{bound_of}
use Rattle.tool_command.specs.ToolAnswers.{OwnersTold, NumbersTaken}
use Rattle.tool_command.proofs.Weaker.{by_weaker}
use Rattle.tool_command.proofs.partitions.numbers_taken.Goals as goal

pub written-requires : goal.written-requires
written-requires c = c.in-Ok.ensures.ok.derived.owners

pub returns-in-Ok : goal.returns-in-Ok
returns-in-Ok c =
    by_weaker (OwnersTold (bound_of c.args.bound.now) c.in-Ok.owners) (NumbersTaken c.args.ranks (bound_of c.args.bound.now) c.args.set c.args.bytes.now) c.written.result
    (λ a h. inl (c.in-Ok.owners, c.in-Ok.ensures.ok, h)) c.written.ensures
