-- What is answered, where it follows.
use Rattle.std.proofs.Common.{Result, Ok, Err}
use Rattle.command_words.specs.Lines as lines
use Rattle.command_words.specs.Lines.{refused}
use Rattle.command_words.specs.declared.answer_lines.call_answer.Answer.{Answer}
use Rattle.command_words.specs.declared.answer_lines.refusals.Halt.{Halt}
use Rattle.command_words.specs.Halts.{answer_of}
use Rattle.command_words.proofs.Public.{stops_weaker}
use Rattle.job_inputs.specs.Chains.{AnswersBy}

pub by_weaker : (P Q : lines.Answer → Type 0) (r : Result Answer Halt) → ((a : lines.Answer) → P a → Q a) → AnswersBy P r → AnswersBy Q r
by_weaker P Q (Ok a) step h = step (answer_of a) h
by_weaker P Q (Err h) step s = stops_weaker (λ r. P (refused r)) (λ r. Q (refused r)) h (λ r. step (refused r)) s
