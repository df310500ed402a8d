use Rattle.std.proofs.Common.{◌≡◌, ◌+◌, ◌≤◌, drop}
use Rattle.c_tree.specs.Lexed.{advance}
use Rattle.c_tree.proofs.lexer.places.advanced.Given as goal

abbrev pub invariant-loop-byte : goal.invariant-loop-byte
invariant-loop-byte l = record {
  so_far : advance l.fn.pos l.bytes ≡ advance l.at (drop l.byte-index l.bytes);
  line : l.at.line ≤ l.fn.pos.line + l.byte-index;
  column : l.at.column ≤ l.fn.pos.column + l.byte-index;
}
