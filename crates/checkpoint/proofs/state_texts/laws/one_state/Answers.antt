use Rattle.checkpoint.proofs.state_texts.OneFile.{says_one_state, says_one_refusal, says_not_both}
use Rattle.checkpoint.proofs.state_texts.laws.one_state.Goals as goal

pub returns-clause-state : goal.returns-clause-state
returns-clause-state c = says_one_state c.number_is_read.ensures

pub returns-clause-refusal : goal.returns-clause-refusal
returns-clause-refusal c = says_one_refusal

pub returns-clause-not_both : goal.returns-clause-not_both
returns-clause-not_both c = says_not_both
