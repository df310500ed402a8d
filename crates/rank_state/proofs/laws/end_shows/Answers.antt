use Rattle.rank_state.proofs.Steps.{end_step}
use Rattle.rank_state.proofs.laws.end_shows.Goals as goal

pub returns : goal.returns
returns g c p l t q k r x plan spans scalars e st f h stays = end_step p l t q st f h c.scatter_is_look_up.ensures k r x plan spans scalars e stays
