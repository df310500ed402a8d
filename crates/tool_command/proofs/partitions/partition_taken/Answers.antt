use Rattle.std.proofs.Common.{Some, inl, rules}
use Rattle.mesh_decl.specs.Named.{NamesSet}
use Rattle.bound_program.specs.Values.{bound_of}
use Rattle.tool_command.specs.ToolAnswers.{NumbersTaken, PartitionTaken}
use Rattle.tool_command.proofs.Weaker.{by_weaker}
use Rattle.tool_command.proofs.partitions.partition_taken.Goals as goal

pub returns-in-Some : goal.returns-in-Some
returns-in-Some c =
    let named : NamesSet (bound_of c.args.bound.now).mesh c.args.set.now (Some c.in-Some.number) = search rules in
    by_weaker (NumbersTaken c.args.ranks (bound_of c.args.bound.now) c.in-Some.number c.args.bytes.now) (PartitionTaken c.args.ranks c.args.set.now (bound_of c.args.bound.now) c.args.bytes.now)
    c.numbers_taken.result (λ a h. inl (c.in-Some.number, named, h)) c.numbers_taken.ensures
