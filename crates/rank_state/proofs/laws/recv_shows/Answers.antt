use Rattle.rank_state.proofs.Messages.{recv_step}
use Rattle.rank_state.proofs.laws.recv_shows.Goals as goal

pub returns : goal.returns
returns g c p l t q k r s lt spans e st f h carries = recv_step p l t q st f h c.scatter_is_look_up.ensures k r s lt spans e carries
