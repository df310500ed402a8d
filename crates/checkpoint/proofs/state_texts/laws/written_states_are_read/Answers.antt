use Rattle.checkpoint.proofs.state_texts.Written.{written_states_are_read}
use Rattle.checkpoint.proofs.state_texts.laws.written_states_are_read.Goals as goal

pub returns : goal.returns
returns c = written_states_are_read c.printed_is_read.ensures c.declarations_hold.ensures.dats
