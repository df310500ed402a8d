use Rattle.checkpoint.proofs.state_texts.AtCut.{cuts_are_read}
use Rattle.checkpoint.proofs.state_texts.laws.cuts_are_read.Goals as goal

pub returns : goal.returns
returns c = cuts_are_read c.printed_is_read.ensures c.declarations_hold.ensures.dats
