use Rattle.command_words.proofs.answer_lines.Pieces.{stops_first, stops_then}
use Rattle.command_words.proofs.answer_lines.reports.write_line.Goals as goal

pub returns-in_err-write_two-clause-front : goal.returns-in_err-write_two-clause-front
returns-in_err-write_two-clause-front g c =
    stops_first c.from_residual.result _ _ c.args.text.now c.args.name.now c.in_err-write_two.ensures.front

pub returns-clause-front : goal.returns-clause-front
returns-clause-front g c =
    stops_then c.write_two-2.result _ _ _ c.args.text.now c.args.name.now c.in_ok-write_two.ensures.ok c.write_two-2.ensures.front
