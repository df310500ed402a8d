use Rattle.std.proofs.Common.{◌≡◌, length}
use Rattle.op_num.specs.Automaton.{last_line}
use Rattle.answers.specs.Judgements.{end_line}
use Rattle.op2_command.proofs.schedules.end_line.Given as goal

abbrev pub invariant-loop : goal.invariant-loop
invariant-loop l = record { line : last_line l.tokens.last l.tokens.words ≡ end_line l.bytes }

abbrev pub decreases-loop : goal.decreases-loop
decreases-loop l = length l.tokens.words
