use Rattle.std.proofs.Common.{◌≡◌, ◌<◌, drop}
use Rattle.c_tree.specs.Spelling.{value_of, value_behind}
use Rattle.c_tree.proofs.lexer.classes.number.Given as goal

abbrev pub invariant-loop-digit : goal.invariant-loop-digit
invariant-loop-digit l = record {
  so_far : value_of l.digits ≡ value_behind l.value (drop l.digit-index l.digits);
  small : l.value < 2147483648;
}
