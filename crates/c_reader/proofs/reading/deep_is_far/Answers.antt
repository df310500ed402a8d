use Rattle.c_reader.proofs.DeepFar.{deep_far}
use Rattle.c_reader.proofs.reading.deep_is_far.Goals as goal

pub returns : goal.returns
returns c = λ bytes p n d. deep_far bytes p n c.one_outcome.ensures d
