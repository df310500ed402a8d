use Rattle.std.proofs.Common.{◌≡◌, drop}
use Rattle.c_tree.specs.Lexed.{is_closed}
use Rattle.c_tree.specs.Front.{is_closed_in}
use Rattle.c_tree.proofs.lexer.texts.is_closed.Given as goal

abbrev pub invariant-loop-byte : goal.invariant-loop-byte
invariant-loop-byte l = is_closed l.bytes ≡ is_closed_in l.is_escaped (drop l.byte-index l.bytes)
