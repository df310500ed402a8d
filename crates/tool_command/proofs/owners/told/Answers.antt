use Rattle.tool_command.proofs.owners.told.Goals as goal

pub written-requires : goal.written-requires
written-requires c = c.planned.invariant.distributed.are_owners
