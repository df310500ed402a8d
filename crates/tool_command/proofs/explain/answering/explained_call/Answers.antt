use Rattle.std.proofs.Common.{◌∙◌, map, string_bytes, ap, subst}
use Rattle.std.proofs.lemmas.Result.{err_from_is_err_and}
use Rattle.op_outside.specs.Outside.{Rose}
use Rattle.explanations.specs.Held.{held as held_by}
use Rattle.tool_command.specs.Held.{AreHeld, CannotHold}
use Rattle.tool_command.proofs.explain.Explaining.{call_answered, call_missing}
use Rattle.tool_command.proofs.explain.answering.explained_call.Goals as goal

pub returns-in_err-held : goal.returns-in_err-held
returns-in_err-held g c =
    let rose = Rose (g.F.Shelf.faults c.args.shelf.now) (g.F.Shelf.faults c.hold_all.new.shelf) in
    let p = err_from_is_err_and c.from_residual-in_err-held.result c.from_residual-in_err-held.ensures.1 in
    rw (p.1, p.2) (call_missing (g.F.Shelf.told c.args.shelf.now) (map string_bytes c.args.words.now.items)
    rose c.in_err-held.field-0.0
    (subst (λ ns. CannotHold (g.F.Shelf.told c.args.shelf.now) ns rose c.in_err-held.field-0.0)
    (ap (map (λ n. n.now)) c.deref.ensures.value ∙ c.in_ok-named.ensures.names) c.in_err-held.ensures.err))

pub returns : goal.returns
returns g c =
    call_answered (g.F.Shelf.told c.args.shelf.now) (map string_bytes c.args.words.now.items) (held_by c.in_ok-held.held)
    (Rose (g.F.Shelf.faults c.args.shelf.now) (g.F.Shelf.faults c.hold_all.new.shelf)) c.explained_over.result
    (subst (AreHeld (g.F.Shelf.told c.args.shelf.now) (held_by c.in_ok-held.held))
    (ap (map (λ n. n.now)) c.deref.ensures.value ∙ c.in_ok-named.ensures.names) c.in_ok-held.ensures.ok) c.explained_over.ensures
