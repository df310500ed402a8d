use Rattle.std.proofs.Common.{Ok}
use Rattle.explanations.proofs.error_loops.Judging.{err_no_ok}
use Rattle.explanations.proofs.error_loops.reading.tokens_of.Goals as goal

pub returns-in-Err-BadByte-clause-none : goal.returns-in-Err-BadByte-clause-none
returns-in-Err-BadByte-clause-none c = λ tokens lx. err_no_ok _ tokens (rw c.in-Err-BadByte.field-0-is at (c.in-Err-BadByte.ensures.only (Ok tokens) lx))

pub returns-in-Err-OpenComment-clause-none : goal.returns-in-Err-OpenComment-clause-none
returns-in-Err-OpenComment-clause-none c = λ tokens lx. err_no_ok _ tokens (rw c.in-Err-OpenComment.field-0-is at (c.in-Err-OpenComment.ensures.only (Ok tokens) lx))

pub returns-in-Err-OpenText-clause-none : goal.returns-in-Err-OpenText-clause-none
returns-in-Err-OpenText-clause-none c = λ tokens lx. err_no_ok _ tokens (rw c.in-Err-OpenText.field-0-is at (c.in-Err-OpenText.ensures.only (Ok tokens) lx))

pub returns-in-Err-NumberTooLarge-clause-none : goal.returns-in-Err-NumberTooLarge-clause-none
returns-in-Err-NumberTooLarge-clause-none c = λ tokens lx. err_no_ok _ tokens (rw c.in-Err-NumberTooLarge.field-0-is at (c.in-Err-NumberTooLarge.ensures.only (Ok tokens) lx))
