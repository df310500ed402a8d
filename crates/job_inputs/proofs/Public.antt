-- What proofs of other crates use of this one: laws of its definitions, and nothing of its code.

-- What parts of the code show, put together: from the parts of the chain of judgements to the whole.
pub use Rattle.job_inputs.proofs.Chained.{SomeAreSeen, halts_weaker, answers_on, still_named, names_are, to_whole, stops_on, answers_by}
pub use Rattle.job_inputs.proofs.Chained.{finds_from, if_ok_weaker, answers_always}
-- From a bound program to what is answered of it over the files, for any job on a program; and from the bytes of a file to what is answered
pub use Rattle.job_inputs.proofs.Jobs.{never_weaker, reached, next_first, next_then, sole_unread, sole_answered, input_next, own_next}
pub use Rattle.job_inputs.proofs.Jobs.{job_halted, job_answered, owned_unread, owned_refused, owned_answered, file_unread, file_answered}
-- The names that a job reads are lent, where all of its words are.
pub use Rattle.job_inputs.proofs.Lent.{all_left, all_right}
-- What parts of a call find, put together.
pub use Rattle.job_inputs.proofs.kept_files.Finding.{nothing_is_seen}
-- From new numbers and owners to the plan.
pub use Rattle.job_inputs.proofs.job_plans.Planning.{planning_halted, planning_answered}
