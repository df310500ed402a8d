use Rattle.std.proofs.Common.{map, string_bytes}
use Rattle.op_outside.specs.Outside.{Rose}
use Rattle.command_words.specs.Lines.{refused}
use Rattle.command_words.specs.Halts.{refusal_of, answer_of}
use Rattle.op2_command.proofs.Chained.{tells, call_failed}
use Rattle.op2_command.proofs.answered.answer_to.Goals as goal

pub returns-in-Ok : goal.returns-in-Ok
returns-in-Ok g c = tells (map string_bytes c.args.words.now.items) (g.F.Shelf.told c.args.shelf.now) (answer_of c.in-Ok.answer) c.in-Ok.ensures

pub returns-in-Err-Failed : goal.returns-in-Err-Failed
returns-in-Err-Failed g c =
    call_failed (map string_bytes c.args.words.now.items) (g.F.Shelf.told c.args.shelf.now)
    (Rose (g.F.Shelf.faults c.args.shelf.now) (g.F.Shelf.faults c.to_words.new.shelf)) c.in-Err-Failed.failure (rw c.in-Err-Failed.field-0-is at c.in-Err-Failed.ensures)

pub returns-in-Ok-refused : goal.returns-in-Ok-refused
returns-in-Ok-refused g c =
    rw c.in-Ok-refused.ensures (tells (map string_bytes c.args.words.now.items) (g.F.Shelf.told c.args.shelf.now)
    (refused (refusal_of c.in-Err-Refused.refusal)) (rw c.in-Err-Refused.field-0-is at c.in-Err-Refused.ensures))
