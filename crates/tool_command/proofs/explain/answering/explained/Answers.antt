use Rattle.std.proofs.Common.{◌∙◌, map, option_map, string_bytes, ap, sym}
use Rattle.op_outside.specs.Outside.{Rose}
use Rattle.command_words.specs.Lines.{done}
use Rattle.tool_command.proofs.explain.Explaining.{text_answered, answered}
use Rattle.tool_command.proofs.explain.answering.explained.Goals as goal

pub returns-in_ok-explain_text-in-Some : goal.returns-in_ok-explain_text-in-Some
returns-in_ok-explain_text-in-Some g c =
    text_answered (g.F.Shelf.told c.args.shelf.now) (map string_bytes c.args.words.now.items) c.in-Some.text.now (done c.in_ok-explain_text-in-Some.field-0.items)
    (sym (sym (ap (option_map (λ t. t.now)) c.in-Some.is) ∙ c.in_ok-found.ensures)) (ap done c.in_ok-explain_text-in-Some.ensures)

pub returns-in-None : goal.returns-in-None
returns-in-None g c =
    answered (g.F.Shelf.told c.args.shelf.now) (map string_bytes c.args.words.now.items)
    (Rose (g.F.Shelf.faults c.args.shelf.now) (g.F.Shelf.faults c.explained_call.new.shelf)) c.explained_call.result
    (sym (sym (ap (option_map (λ t. t.now)) c.in-None.is) ∙ c.in_ok-found.ensures)) c.explained_call.ensures
