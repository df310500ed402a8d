use Rattle.rank_state.proofs.Steps.{begin_step}
use Rattle.rank_state.proofs.laws.begin_shows.Goals as goal

pub returns : goal.returns
returns g c p l t q z k r x plan spans scalars e st f h none = begin_step p l t q st f h z k r x plan spans scalars e none
