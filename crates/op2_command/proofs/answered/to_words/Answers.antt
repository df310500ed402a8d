use Rattle.std.proofs.Common.{All, map, string_bytes, ap, subst}
use Rattle.std.proofs.lemmas.Result.{err_from_is_err_and}
use Rattle.op_outside.specs.Outside.{Rose}
use Rattle.command_words.specs.Words.{names_in}
use Rattle.command_words.specs.Values.{command_of}
use Rattle.op2_command.proofs.Chained.{words_refused, command_answered}
use Rattle.op2_command.proofs.answered.to_words.Goals as goal

pub to_asked-requires-clause-lent : goal.to_asked-requires-clause-lent
to_asked-requires-clause-lent g c κs within = subst (All (g.F.Shelf.lends c.args.shelf.now)) (ap names_in c.in_ok-asked.ensures.ok) c.requires

pub returns-in_err-asked : goal.returns-in_err-asked
returns-in_err-asked g c =
    let p = err_from_is_err_and c.from_residual.result c.from_residual.ensures.1 in
    rw (p.1, p.2) (words_refused (map string_bytes c.args.words.now.items) (g.F.Shelf.told c.args.shelf.now)
    (Rose (g.F.Shelf.faults c.args.shelf.now) (g.F.Shelf.faults c.args.shelf.now)) c.in_err-asked.field-0.0 c.in_err-asked.ensures.err)

pub returns : goal.returns
returns g c =
    command_answered (map string_bytes c.args.words.now.items) (g.F.Shelf.told c.args.shelf.now) (command_of c.in_ok-asked.asked)
    (Rose (g.F.Shelf.faults c.args.shelf.now) (g.F.Shelf.faults c.to_asked.new.shelf)) c.to_asked.result c.in_ok-asked.ensures.ok
    c.to_asked.ensures
