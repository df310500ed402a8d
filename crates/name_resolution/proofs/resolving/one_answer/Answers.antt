use Rattle.name_resolution.proofs.Unique.{one_answer}
use Rattle.name_resolution.proofs.resolving.one_answer.Goals as goal

pub returns : goal.returns
returns c = one_answer
