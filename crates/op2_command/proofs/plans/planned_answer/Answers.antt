use Rattle.op2_command.proofs.plans.planned_answer.Goals as goal

pub write_plan-requires-clause-ranks : goal.write_plan-requires-clause-ranks
write_plan-requires-clause-ranks g c =
    let found = c.planned.inside.distribution in
    let spread = c.planned.invariant in (
      found.halos,
      rw c.deref.ensures.value (record {
        owners = found.owners;
        numbers = spread.numbers;
        are_halos = spread.are_halos;
        distributed = spread.distributed;
      }),
    )

pub returns-in-RunsPlan : goal.returns-in-RunsPlan
returns-in-RunsPlan g c = rw c.in-RunsPlan.is c.run_on.ensures
