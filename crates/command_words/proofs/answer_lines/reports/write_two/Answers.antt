use Rattle.std.proofs.lemmas.Result.{on_err_weaker}
use Rattle.command_words.proofs.answer_lines.Pieces.{front_then}
use Rattle.command_words.proofs.answer_lines.reports.write_two.Goals as goal

pub returns-clause-front : goal.returns-clause-front
returns-clause-front g c =
    on_err_weaker c.write_all_of-2.result (front_then _ _ c.args.a.now c.args.b.now _ c.in_ok-write_all_of.ensures.ok) c.write_all_of-2.ensures.front
