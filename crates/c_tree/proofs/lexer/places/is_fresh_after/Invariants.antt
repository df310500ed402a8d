use Rattle.std.proofs.Common.{◌≡◌, drop}
use Rattle.c_tree.specs.Lexed.{fresh_after}
use Rattle.c_tree.proofs.lexer.places.is_fresh_after.Given as goal

abbrev pub invariant-loop-byte : goal.invariant-loop-byte
invariant-loop-byte l = fresh_after l.fresh l.bytes ≡ fresh_after l.is_fresh (drop l.byte-index l.bytes)
