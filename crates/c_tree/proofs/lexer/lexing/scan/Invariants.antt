use Rattle.std.proofs.Common.{length, ◌-◌, ◌+◌, ◌≤◌}
use Rattle.c_tree.proofs.lexer.Turns.{State}
use Rattle.c_tree.proofs.lexer.lexing.scan.Given as goal

abbrev pub invariant-loop-from : goal.invariant-loop-from
invariant-loop-from l = record {
  within : l.from ≤ length l.bytes;
  line : l.at.line ≤ l.from + 1;
  column : l.at.column ≤ l.from + 1;
  state : State l.bytes l.is_fresh l.is_after_number l.from l.at l.tokens.items;
}

abbrev pub decreases-loop-from : goal.decreases-loop-from
decreases-loop-from l = length l.bytes - l.from
