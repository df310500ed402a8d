use Rattle.answers.proofs.answer_writing.writing.write_failure.Goals as goal

pub returns-in-Unread-clause-said : goal.returns-in-Unread-clause-said
returns-in-Unread-clause-said g c = rw c.in-Unread.is c.report.ensures.said
