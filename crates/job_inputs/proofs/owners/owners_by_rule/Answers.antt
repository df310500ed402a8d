use Rattle.bound_program.specs.Values.{bound_of}
use Rattle.partition.specs.Parts.{parts_of}
use Rattle.job_inputs.proofs.Unowned.{unowned_refuses}
use Rattle.job_inputs.proofs.owners.owners_by_rule.Goals as goal

pub returns-in-Err-clause-err : goal.returns-in-Err-clause-err
returns-in-Err-clause-err c =
    unowned_refuses c.args.ranks (bound_of c.args.bound.now) (parts_of c.args.rule.now) c.in-Err.refusal c.unowned.result c.in-Err.ensures.refused c.unowned.ensures.says c.unowned.ensures.memory
