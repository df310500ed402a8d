-- What proofs of other crates use of this one: laws of its definitions, and nothing of its code.

-- Where the tokens that can stand in front of a state are those that lead to it, reading is exact.
pub use Rattle.op_num.proofs.texts.Exact.{found_run, refused_run, refuses_run, through, refused, found, refuses, whole_run, only}
pub use Rattle.op_num.proofs.texts.Exact.{through-none, through-more, through-both}
-- Sums, minima and maxima commute.
pub use Rattle.op_num.proofs.reductions.Laws.{commuting}
-- Tokens that lead from one state to another, by their bytes.
pub use Rattle.op_num.proofs.texts.Leading.{Goes, goes_nowhere, goes_join, goes_one, goes_on}
-- One token after another, for any text format.
pub use Rattle.op_num.proofs.texts.Reading.{onto_err, run_refused, run_end, run_onto, or_refused, onto_is, passes_on, fewer, run_token}
pub use Rattle.op_num.proofs.texts.Reading.{further}
-- Written words: tokens of lines, and numbers as tokens.
pub use Rattle.op_num.proofs.texts.Words.{integer_token, concat, placed_texts, number_token, concat_append, lines_append}
-- The first line, and the words of a line.
pub use Rattle.op_num.proofs.texts.line_texts.Cutting.{joined, one_line, one_cut, front_there, front_missing}
