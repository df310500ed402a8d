use Rattle.checkpoint.proofs.state_texts.Something.{says_something}
use Rattle.checkpoint.proofs.state_texts.laws.some_state.Goals as goal

pub returns : goal.returns
returns c = says_something c.declarations_hold.ensures.dats
