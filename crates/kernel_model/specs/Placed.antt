-- A fault of an operator gets the operator's place.
use Rattle.std.specs.Prelude.{ℤ, Result, Ok, Err}
use Rattle.op_num.specs.declared.refusals.Fault.{Fault}
use Rattle.c_tree.specs.declared.lexer.tokens.Pos.{Pos}
use Rattle.kernel_model.specs.Numbers.{Value, fault}

-- the value, or its fault at that place
abbrev pub placed : Result ℤ Fault → Pos → Value
placed (Ok v) at = Ok v
placed (Err kind) at = Err (fault kind at)
