use Rattle.std.proofs.Common.{refl}
use Rattle.command_words.specs.Halts.{answer_of}
use Rattle.op2_command.proofs.Ended.{ended, failed, defined}
use Rattle.op2_command.proofs.top.op2_gated.Goals as goal

pub returns-in-Ok : goal.returns-in-Ok
returns-in-Ok g c =
    defined _ _ c.calls_are_complete.ensures c.usage_is_of_words.ensures c.unread_files_are_named.ensures c.calls_show_their_answers.ensures
    c.calls_report_their_answers.ensures c.others_write_nothing.ensures
    (ended _ _ (answer_of c.in-Ok.answer) c.in-Ok.ensures c.write_answer.ensures)

pub returns-in-Err : goal.returns-in-Err
returns-in-Err g c =
    defined _ _ c.calls_are_complete.ensures c.usage_is_of_words.ensures c.unread_files_are_named.ensures c.calls_show_their_answers.ensures
    c.calls_report_their_answers.ensures c.others_write_nothing.ensures
    (failed _ _ c.in-Err.failure c.in-Err.ensures refl c.write_failure.ensures.status c.write_failure.ensures.said)
