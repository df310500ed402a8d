use Rattle.rank_state.proofs.Messages.{send_step}
use Rattle.rank_state.proofs.laws.send_shows.Goals as goal

pub returns : goal.returns
returns g c p l t q k s r lt spans e st f h = send_step p l t q st f h k s r lt spans e
