-- What the lexer answered.
use Rattle.std.specs.Prelude.{Vec, Result, Ok, Err}
use Rattle.std.specs.Global.{Global}
use Rattle.c_tree.specs.declared.lexer.tokens.Token.{Token}
use Rattle.c_tree.specs.declared.lexer.refusals.LexRefusal.{LexRefusal}
use Rattle.c_tree.specs.declared.lexer.refusals.LexRefusal.TheVariants.{OutOfMemory}
use Rattle.c_tree.specs.Lexed.{Outcome}

-- the answer holds, with the list of its tokens or its refusal, unless memory ran out
abbrev pub Answers : (Outcome → Type 0) → Result (Vec Token Global) LexRefusal → Type 0
Answers P (Ok v) = P (Ok v.items)
Answers P (Err OutOfMemory) = Unit {0}
Answers P (Err r) = P (Err r)
