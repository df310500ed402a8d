use Rattle.std.proofs.Common.{refl}
use Rattle.command_words.specs.Halts.{answer_of}
use Rattle.command_words.specs.declared.answer_lines.refusals.Failure.TheVariants.{OutOfMemory}
use Rattle.tool_command.proofs.Ended.{ended, failed}
use Rattle.tool_command.proofs.top.tools.Goals as goal

pub returns-in-Err : goal.returns-in-Err
returns-in-Err g c = failed _ _ OutOfMemory tt refl c.write_failure.ensures.status c.write_failure.ensures.said

pub returns-in-Ok-answered : goal.returns-in-Ok-answered
returns-in-Ok-answered g c = ended _ _ (answer_of c.in-Ok-answered.answer) c.in-Ok-answered.ensures c.write_answer.ensures
