use Rattle.std.proofs.Common.{map, string_bytes, inr, refl}
use Rattle.op_outside.specs.Outside.{Rose}
use Rattle.command_words.specs.Halts.{answer_of}
use Rattle.tool_words.specs.Values.{command_of}
use Rattle.tool_command.specs.Endings.{names_of}
use Rattle.tool_command.proofs.Wording.{command_answered, refused_words}
use Rattle.tool_command.proofs.answered.to_words.Goals as goal

pub to_asked-requires-clause-lent : goal.to_asked-requires-clause-lent
to_asked-requires-clause-lent g c κs within = c.requires.lent (names_of (command_of c.in-Ok.asked)) (inr (command_of c.in-Ok.asked, c.in-Ok.ensures.is, refl))

pub returns-in-Ok : goal.returns-in-Ok
returns-in-Ok g c =
    command_answered (map string_bytes c.args.words.now.items) (g.F.Shelf.told c.args.shelf.now) (command_of c.in-Ok.asked)
    (Rose (g.F.Shelf.faults c.args.shelf.now) (g.F.Shelf.faults c.to_asked.new.shelf)) c.to_asked.result c.in-Ok.ensures.is c.to_asked.ensures

pub returns-in_ok-refused_words-in-Err-Usage : goal.returns-in_ok-refused_words-in-Err-Usage
returns-in_ok-refused_words-in-Err-Usage g c =
    refused_words (map string_bytes c.args.words.now.items) (g.F.Shelf.told c.args.shelf.now) (answer_of c.in_ok-refused_words-in-Err-Usage.field-0)
    (rw c.in-Err-Usage.field-0-is at c.in-Err-Usage.ensures.is) c.in_ok-refused_words-in-Err-Usage.ensures
