use Rattle.rank_state.proofs.Passing.{pass_step}
use Rattle.rank_state.proofs.laws.in_place_shows.Goals as goal

pub returns : goal.returns
returns g c p l t q z k r x plan spans scalars e st f h none some = pass_step p l t q z st f h c.scatter_is_look_up.ensures k r x plan spans scalars e none some
