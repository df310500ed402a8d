-- How tokens are spelled (ISO C 6.4).
use Rattle.std.specs.Prelude.{◌≡◌, ◌≢◌, ℕ, ◌+◌, ◌*◌, ◌-◌, Bool, true, ◌&&◌, ◌||◌, nat_eq, nat_le, List, [], ◌∷◌, ◌++◌, pos, codes, not, if◌then◌else◌}
use Rattle.std.specs.List.{list_all}
use Rattle.c_tree.specs.declared.lexer.tokens.Kind.{Kind}
use Rattle.c_tree.specs.declared.lexer.tokens.Kind.TheVariants as kind
use Rattle.c_tree.specs.declared.lexer.tokens.Sign.{Sign}
use Rattle.c_tree.specs.declared.lexer.tokens.Sign.TheVariants as sign
use Rattle.c_tree.specs.declared.lexer.tokens.Word.{Word}
use Rattle.c_tree.specs.declared.lexer.tokens.Word.TheVariants as word

-- the bytes of a sign
abbrev pub sign_spelling : Sign → List ℕ
sign_spelling sign.LeftParen = codes "("
sign_spelling sign.RightParen = codes ")"
sign_spelling sign.LeftBrace = codes "{"
sign_spelling sign.RightBrace = codes "}"
sign_spelling sign.LeftBracket = codes "["
sign_spelling sign.RightBracket = codes "]"
sign_spelling sign.Semicolon = codes ";"
sign_spelling sign.Comma = codes ","
sign_spelling sign.Assign = codes "="
sign_spelling sign.AddAssign = codes "+="
sign_spelling sign.SubAssign = codes "-="
sign_spelling sign.MulAssign = codes "*="
sign_spelling sign.DivAssign = codes "/="
sign_spelling sign.RemAssign = codes "%="
sign_spelling sign.ShlAssign = codes "<<="
sign_spelling sign.ShrAssign = codes ">>="
sign_spelling sign.AndAssign = codes "&="
sign_spelling sign.OrAssign = codes "|="
sign_spelling sign.XorAssign = codes "^="
sign_spelling sign.Question = codes "?"
sign_spelling sign.Colon = codes ":"
sign_spelling sign.OrOr = codes "||"
sign_spelling sign.AndAnd = codes "&&"
sign_spelling sign.Or = codes "|"
sign_spelling sign.Xor = codes "^"
sign_spelling sign.And = codes "&"
sign_spelling sign.EqualEqual = codes "=="
sign_spelling sign.NotEqual = codes "!="
sign_spelling sign.Less = codes "<"
sign_spelling sign.Greater = codes ">"
sign_spelling sign.LessEqual = codes "<="
sign_spelling sign.GreaterEqual = codes ">="
sign_spelling sign.Shl = codes "<<"
sign_spelling sign.Shr = codes ">>"
sign_spelling sign.Plus = codes "+"
sign_spelling sign.Minus = codes "-"
sign_spelling sign.Star = codes "*"
sign_spelling sign.Slash = codes "/"
sign_spelling sign.Percent = codes "%"
sign_spelling sign.Not = codes "!"
sign_spelling sign.Tilde = codes "~"
sign_spelling sign.PlusPlus = codes "++"
sign_spelling sign.MinusMinus = codes "--"

-- the bytes of a reserved word
abbrev pub word_spelling : Word → List ℕ
word_spelling word.Extern = codes "extern"
word_spelling word.Const = codes "const"
word_spelling word.Int = codes "int"
word_spelling word.Void = codes "void"
word_spelling word.Static = codes "static"
word_spelling word.Inline = codes "inline"
word_spelling word.Char = codes "char"
word_spelling word.If = codes "if"
word_spelling word.Else = codes "else"
word_spelling word.For = codes "for"
word_spelling word.Return = codes "return"
word_spelling word.Main = codes "main"
word_spelling word.Argc = codes "argc"
word_spelling word.Argv = codes "argv"
word_spelling word.OpSet = codes "op_set"
word_spelling word.OpMap = codes "op_map"
word_spelling word.OpDat = codes "op_dat"
word_spelling word.OpInit = codes "op_init"
word_spelling word.OpExit = codes "op_exit"
word_spelling word.OpDeclSet = codes "op_decl_set"
word_spelling word.OpDeclMap = codes "op_decl_map"
word_spelling word.OpDeclDat = codes "op_decl_dat"
word_spelling word.OpDeclConst = codes "op_decl_const"
word_spelling word.OpParLoop = codes "op_par_loop"
word_spelling word.OpArgDat = codes "op_arg_dat"
word_spelling word.OpArgGbl = codes "op_arg_gbl"
word_spelling word.OpPrintf = codes "op_printf"
word_spelling word.OpPrintDatToTxtfile = codes "op_print_dat_to_txtfile"
word_spelling word.OpId = codes "OP_ID"
word_spelling word.OpRead = codes "OP_READ"
word_spelling word.OpWrite = codes "OP_WRITE"
word_spelling word.OpRw = codes "OP_RW"
word_spelling word.OpInc = codes "OP_INC"
word_spelling word.OpMin = codes "OP_MIN"
word_spelling word.OpMax = codes "OP_MAX"
word_spelling word.Min = codes "MIN"
word_spelling word.Max = codes "MAX"
word_spelling word.Abs = codes "ABS"

-- space, tab, CR and LF
abbrev pub blank : ℕ → Bool
blank b = nat_eq b 32 || nat_eq b 9 || nat_eq b 13 || nat_eq b 10

-- a letter or `_`
abbrev pub letter : ℕ → Bool
letter b = (nat_le 97 b && nat_le b 122) || (nat_le 65 b && nat_le b 90) || nat_eq b 95

-- 0 to 9
abbrev pub digit : ℕ → Bool
digit b = nat_le 48 b && nat_le b 57

-- what may stand in a name behind its first byte
abbrev pub part : ℕ → Bool
part b = letter b || digit b

-- the number that digits spell, behind those of n
abbrev pub value_behind : ℕ → List ℕ → ℕ
value_behind n [] = n
value_behind n (b ∷ bs) = value_behind (10 * n + (b - 48)) bs

-- the number that digits spell
abbrev pub value_of : List ℕ → ℕ
value_of bs = value_behind 0 bs

-- a letter or `_`, and then letters, digits and `_`
abbrev pub IsName : List ℕ → Type 0
IsName [] = ⊥
IsName (b ∷ bs) = (letter b ≡ true) × (list_all part bs ≡ true)

-- 0, or digits that don't begin with it
abbrev pub IsFigure : List ℕ → Type 0
IsFigure [] = ⊥
IsFigure (b ∷ []) = digit b ≡ true
IsFigure (b ∷ c ∷ bs) = (digit b ≡ true) × (b ≢ 48) × (list_all digit (c ∷ bs) ≡ true)

-- what a text can stand for: LF, tab, and the bytes from 32 up except 127
abbrev pub textual : ℕ → Bool
textual b = nat_eq b 10 || nat_eq b 9 || (nat_le 32 b && not (nat_eq b 127))

-- how a text spells a byte: LF, tab, `\` and `"` by their escapes
abbrev pub escaped : ℕ → List ℕ
escaped b =
    if nat_eq b 10 then codes "\\n"
    else if nat_eq b 9 then codes "\\t"
    else if nat_eq b 92 then codes "\\\\"
    else if nat_eq b 34 then codes "\\\""
    else b ∷ []

-- how a text spells bytes
abbrev pub all_escaped : List ℕ → List ℕ
all_escaped [] = []
all_escaped (b ∷ bs) = escaped b ++ all_escaped bs

-- a text is its bytes, escaped, between quotes
abbrev pub text_spelling : List ℕ → List ℕ
text_spelling t = 34 ∷ (all_escaped t ++ 34 ∷ [])

-- the bytes have the form of a token of this kind, whatever the value of a number
abbrev pub HasForm : Kind → List ℕ → Type 0
HasForm (kind.Word w) bs = bs ≡ word_spelling w
HasForm (kind.Name x) bs = (bs ≡ x) × IsName bs × ((w : Word) → bs ≢ word_spelling w)
HasForm (kind.Number z) bs = IsFigure bs × (z ≡ pos (value_of bs))
HasForm (kind.Text t) bs = (bs ≡ text_spelling t) × (list_all textual t ≡ true)
HasForm (kind.Sign s) bs = bs ≡ sign_spelling s
