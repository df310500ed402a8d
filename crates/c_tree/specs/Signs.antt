-- The signs and levels of operators.
use Rattle.std.specs.Prelude.{ℕ}
use Rattle.c_tree.specs.declared.lexer.tokens.Sign.{Sign}
use Rattle.c_tree.specs.declared.lexer.tokens.Sign.TheVariants as sign
use Rattle.c_tree.specs.declared.lexer.tokens.Word.{Word}
use Rattle.c_tree.specs.declared.lexer.tokens.Word.TheVariants as word
use Rattle.c_tree.specs.declared.expressions.BinaryOp.{BinaryOp}
use Rattle.c_tree.specs.declared.expressions.BinaryOp.TheVariants as binary
use Rattle.c_tree.specs.declared.expressions.UnaryOp.{UnaryOp}
use Rattle.c_tree.specs.declared.expressions.UnaryOp.TheVariants as unary
use Rattle.c_tree.specs.declared.declarations.AssignOp.{AssignOp}
use Rattle.c_tree.specs.declared.declarations.AssignOp.TheVariants as assign
use Rattle.c_tree.specs.declared.expressions.MinMax.{MinMax}
use Rattle.c_tree.specs.declared.expressions.MinMax.TheVariants as min_max
use Rattle.c_tree.specs.declared.hosts.AccessWord.{AccessWord}
use Rattle.c_tree.specs.declared.hosts.AccessWord.TheVariants as access

-- the sign that a binary operator is written with
abbrev pub sign_of : BinaryOp → Sign
sign_of binary.LogicalOr = sign.OrOr
sign_of binary.LogicalAnd = sign.AndAnd
sign_of binary.BitOr = sign.Or
sign_of binary.BitXor = sign.Xor
sign_of binary.BitAnd = sign.And
sign_of binary.Equal = sign.EqualEqual
sign_of binary.NotEqual = sign.NotEqual
sign_of binary.Less = sign.Less
sign_of binary.Greater = sign.Greater
sign_of binary.LessEqual = sign.LessEqual
sign_of binary.GreaterEqual = sign.GreaterEqual
sign_of binary.ShiftLeft = sign.Shl
sign_of binary.ShiftRight = sign.Shr
sign_of binary.Add = sign.Plus
sign_of binary.Sub = sign.Minus
sign_of binary.Mul = sign.Star
sign_of binary.Div = sign.Slash
sign_of binary.Rem = sign.Percent

-- the level of an operator: 0 is that of ?:, 11 that of a unary operator, 12 that of an atom
abbrev pub level_of : BinaryOp → ℕ
level_of binary.LogicalOr = 1
level_of binary.LogicalAnd = 2
level_of binary.BitOr = 3
level_of binary.BitXor = 4
level_of binary.BitAnd = 5
level_of binary.Equal = 6
level_of binary.NotEqual = 6
level_of binary.Less = 7
level_of binary.Greater = 7
level_of binary.LessEqual = 7
level_of binary.GreaterEqual = 7
level_of binary.ShiftLeft = 8
level_of binary.ShiftRight = 8
level_of binary.Add = 9
level_of binary.Sub = 9
level_of binary.Mul = 10
level_of binary.Div = 10
level_of binary.Rem = 10

-- the sign that a unary operator is written with
abbrev pub unary_sign_of : UnaryOp → Sign
unary_sign_of unary.Minus = sign.Minus
unary_sign_of unary.Plus = sign.Plus
unary_sign_of unary.Not = sign.Not
unary_sign_of unary.Complement = sign.Tilde

-- the sign that an assignment is written with
abbrev pub assign_sign_of : AssignOp → Sign
assign_sign_of assign.Set = sign.Assign
assign_sign_of assign.Add = sign.AddAssign
assign_sign_of assign.Sub = sign.SubAssign
assign_sign_of assign.Mul = sign.MulAssign
assign_sign_of assign.Div = sign.DivAssign
assign_sign_of assign.Rem = sign.RemAssign
assign_sign_of assign.ShiftLeft = sign.ShlAssign
assign_sign_of assign.ShiftRight = sign.ShrAssign
assign_sign_of assign.BitAnd = sign.AndAssign
assign_sign_of assign.BitOr = sign.OrAssign
assign_sign_of assign.BitXor = sign.XorAssign

-- the word `MIN` or `MAX`
abbrev pub min_max_word_of : MinMax → Word
min_max_word_of min_max.Min = word.Min
min_max_word_of min_max.Max = word.Max

-- the word that an access is written with
abbrev pub access_word_of : AccessWord → Word
access_word_of access.Read = word.OpRead
access_word_of access.Write = word.OpWrite
access_word_of access.Rw = word.OpRw
access_word_of access.Inc = word.OpInc
access_word_of access.Min = word.OpMin
access_word_of access.Max = word.OpMax
