-- What proofs of other crates use of this one: laws of its definitions, and nothing of its code.

-- The numbers of a plan's options are in range.
pub use Rattle.command_words.proofs.Within.{Holds, Any, any, holds_if, holds_then, holds_map}
-- What ends a judgement.
pub use Rattle.command_words.proofs.answer_lines.Halts.{stops_weaker}
