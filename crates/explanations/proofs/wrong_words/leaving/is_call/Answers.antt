use Rattle.std.proofs.Common.{map, string_bytes, ap, Err}
use Rattle.command_words.specs.Refusal.{Usage}
use Rattle.command_words.specs.Values.{command_of}
use Rattle.explanations.proofs.wrong_words.LeftOut.{call_of, no_call}
use Rattle.explanations.proofs.wrong_words.leaving.is_call.Goals as goal

pub returns-in-Ok : goal.returns-in-Ok
returns-in-Ok c = call_of (map string_bytes c.args.words.now.items) (command_of c.in-Ok.field-0) c.in-Ok.ensures.ok

pub returns-in-Err-Usage : goal.returns-in-Err-Usage
returns-in-Err-Usage c =
    no_call (map string_bytes c.args.words.now.items) Usage (c.in-Err-Usage.ensures.refused (ap Err c.in-Err-Usage.field-0-is))
