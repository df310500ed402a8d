-- What ends a judgement.
use Rattle.command_words.specs.Refusal.{Refusal}
use Rattle.command_words.specs.declared.answer_lines.refusals.Failure.TheVariants.{Unread, OutOfMemory}
use Rattle.command_words.specs.declared.answer_lines.refusals.Halt.{Halt}
use Rattle.command_words.specs.declared.answer_lines.refusals.Halt.TheVariants.{Refused, Failed}
use Rattle.command_words.specs.Halts.{refusal_of, StopsWhere}

-- what a halt shows, where it follows
pub stops_weaker : (P Q : Refusal → Type 0) (h : Halt) → ((r : Refusal) → P r → Q r) → StopsWhere P h → StopsWhere Q h
stops_weaker P Q (Refused r) step s = step (refusal_of r) s
stops_weaker P Q (Failed (Unread n)) step s = absurd s
stops_weaker P Q (Failed OutOfMemory) step s = tt
