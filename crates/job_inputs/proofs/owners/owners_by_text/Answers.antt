use Rattle.bound_program.specs.Values.{bound_of}
use Rattle.partition.specs.Parts.{Text, Unspelled}
use Rattle.job_inputs.proofs.Unowned.{owners_refused_by}
use Rattle.job_inputs.proofs.owners.owners_by_text.Goals as goal

pub returns-in-Err-Text-clause-err : goal.returns-in-Err-Text-clause-err
returns-in-Err-Text-clause-err c =
    owners_refused_by c.args.ranks (bound_of c.args.bound.now) (Text c.args.bytes.now) (Unspelled c.in-Err-Text.refusal) c.unspelled.result
    (rw c.in-Err-Text.field-0-is at c.in-Err-Text.ensures.refused) c.unspelled.ensures
