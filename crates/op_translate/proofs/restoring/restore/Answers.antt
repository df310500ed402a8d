use Rattle.op_translate.specs.Translation.{Restores}
use Rattle.op_translate.proofs.Answered.{only_answer}
use Rattle.op_translate.proofs.restoring.restore.Goals as goal

pub returns-clause-only : goal.returns-clause-only
returns-clause-only c = λ o h. only_answer (Restores c.args.bytes.now) (c.one_restoration.ensures c.args.bytes.now) c.restored.result o h c.restored.ensures
