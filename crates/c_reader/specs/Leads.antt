-- What a sign or a word begins or joins, and which statement or part of the file a token begins.
use Rattle.std.specs.Prelude.{Option, Some, None}
use Rattle.c_tree.specs.declared.lexer.tokens.Sign.{Sign}
use Rattle.c_tree.specs.declared.lexer.tokens.Sign.TheVariants as sign
use Rattle.c_tree.specs.declared.expressions.BinaryOp.{BinaryOp}
use Rattle.c_tree.specs.declared.expressions.BinaryOp.TheVariants as binary
use Rattle.c_tree.specs.declared.expressions.UnaryOp.TheVariants as unary
use Rattle.c_tree.specs.declared.lexer.tokens.Word.{Word}
use Rattle.c_tree.specs.declared.lexer.tokens.Word.TheVariants as word
use Rattle.c_tree.specs.declared.expressions.MinMax.TheVariants as min_max
use Rattle.c_reader.specs.declared.leads.WordLead.{WordLead}
use Rattle.c_reader.specs.declared.leads.WordLead.TheVariants as word_lead
use Rattle.c_reader.specs.declared.leads.Lead.{Lead}
use Rattle.c_reader.specs.declared.leads.Lead.TheVariants as lead
use Rattle.c_tree.specs.declared.lexer.tokens.Kind.{Kind}
use Rattle.c_tree.specs.declared.lexer.tokens.Kind.TheVariants as kind
use Rattle.c_tree.specs.declared.declarations.AssignOp.{AssignOp}
use Rattle.c_tree.specs.declared.declarations.AssignOp.TheVariants as assign
use Rattle.c_tree.specs.declared.hosts.AccessWord.{AccessWord}
use Rattle.c_tree.specs.declared.hosts.AccessWord.TheVariants as access
use Rattle.c_reader.specs.declared.leads.StmtLead.{StmtLead}
use Rattle.c_reader.specs.declared.leads.StmtLead.TheVariants as stmt_lead
use Rattle.c_reader.specs.declared.leads.CallLead.TheVariants as call_lead
use Rattle.c_reader.specs.declared.leads.HostLead.{HostLead}
use Rattle.c_reader.specs.declared.leads.HostLead.TheVariants as host_lead
use Rattle.c_reader.specs.declared.leads.TopLead.{TopLead}
use Rattle.c_reader.specs.declared.leads.TopLead.TheVariants as top_lead

-- the binary operator that a sign is
abbrev pub binary_of : Sign → Option BinaryOp
binary_of sign.OrOr = Some binary.LogicalOr
binary_of sign.AndAnd = Some binary.LogicalAnd
binary_of sign.Or = Some binary.BitOr
binary_of sign.Xor = Some binary.BitXor
binary_of sign.And = Some binary.BitAnd
binary_of sign.EqualEqual = Some binary.Equal
binary_of sign.NotEqual = Some binary.NotEqual
binary_of sign.Less = Some binary.Less
binary_of sign.Greater = Some binary.Greater
binary_of sign.LessEqual = Some binary.LessEqual
binary_of sign.GreaterEqual = Some binary.GreaterEqual
binary_of sign.Shl = Some binary.ShiftLeft
binary_of sign.Shr = Some binary.ShiftRight
binary_of sign.Plus = Some binary.Add
binary_of sign.Minus = Some binary.Sub
binary_of sign.Star = Some binary.Mul
binary_of sign.Slash = Some binary.Div
binary_of sign.Percent = Some binary.Rem
binary_of _ = None

-- which expression a sign begins
abbrev pub lead_of : Sign → Lead
lead_of sign.LeftParen = lead.Paren
lead_of sign.Star = lead.Deref
lead_of sign.Minus = lead.Unary unary.Minus
lead_of sign.Plus = lead.Unary unary.Plus
lead_of sign.Not = lead.Unary unary.Not
lead_of sign.Tilde = lead.Unary unary.Complement
lead_of _ = lead.Nothing

-- which expression a word begins
abbrev pub word_lead_of : Word → WordLead
word_lead_of word.Min = word_lead.Extremum min_max.Min
word_lead_of word.Max = word_lead.Extremum min_max.Max
word_lead_of word.Abs = word_lead.Absolute
word_lead_of _ = word_lead.Nothing

-- the assignment that a sign makes
abbrev pub assign_of : Sign → Option AssignOp
assign_of sign.Assign = Some assign.Set
assign_of sign.AddAssign = Some assign.Add
assign_of sign.SubAssign = Some assign.Sub
assign_of sign.MulAssign = Some assign.Mul
assign_of sign.DivAssign = Some assign.Div
assign_of sign.RemAssign = Some assign.Rem
assign_of sign.ShlAssign = Some assign.ShiftLeft
assign_of sign.ShrAssign = Some assign.ShiftRight
assign_of sign.AndAssign = Some assign.BitAnd
assign_of sign.OrAssign = Some assign.BitOr
assign_of sign.XorAssign = Some assign.BitXor
assign_of _ = None

-- the access that a word names
abbrev pub access_of : Word → Option AccessWord
access_of word.OpRead = Some access.Read
access_of word.OpWrite = Some access.Write
access_of word.OpRw = Some access.Rw
access_of word.OpInc = Some access.Inc
access_of word.OpMin = Some access.Min
access_of word.OpMax = Some access.Max
access_of _ = None

-- which statement of a kernel a token begins
abbrev pub stmt_lead_of : Kind → StmtLead
stmt_lead_of (kind.Word word.Int) = stmt_lead.Declaration
stmt_lead_of (kind.Word word.If) = stmt_lead.If
stmt_lead_of (kind.Word word.For) = stmt_lead.For
stmt_lead_of (kind.Sign sign.LeftBrace) = stmt_lead.Block
stmt_lead_of (kind.Sign sign.Semicolon) = stmt_lead.Empty
stmt_lead_of (kind.Sign sign.Star) = stmt_lead.Assignment
stmt_lead_of (kind.Name x) = stmt_lead.Assignment
stmt_lead_of _ = stmt_lead.Nothing

-- which statement of `main` a word begins
abbrev pub host_word_lead_of : Word → HostLead
host_word_lead_of word.Int = host_lead.Declaration
host_word_lead_of word.Const = host_lead.Declaration
host_word_lead_of word.If = host_lead.If
host_word_lead_of word.For = host_lead.For
host_word_lead_of word.OpInit = host_lead.Call call_lead.Init
host_word_lead_of word.OpSet = host_lead.Call call_lead.DeclSet
host_word_lead_of word.OpMap = host_lead.Call call_lead.DeclMap
host_word_lead_of word.OpDat = host_lead.Call call_lead.DeclDat
host_word_lead_of word.OpDeclConst = host_lead.Call call_lead.DeclConst
host_word_lead_of word.OpParLoop = host_lead.Call call_lead.ParLoop
host_word_lead_of word.OpPrintf = host_lead.Call call_lead.Printf
host_word_lead_of word.OpPrintDatToTxtfile = host_lead.Call call_lead.PrintDat
host_word_lead_of _ = host_lead.Nothing

-- which statement of `main` a token begins
abbrev pub host_lead_of : Kind → HostLead
host_lead_of (kind.Word w) = host_word_lead_of w
host_lead_of (kind.Sign sign.LeftBrace) = host_lead.Block
host_lead_of (kind.Sign sign.Semicolon) = host_lead.Empty
host_lead_of (kind.Sign sign.Star) = host_lead.Assignment
host_lead_of (kind.Name x) = host_lead.Assignment
host_lead_of _ = host_lead.Nothing

-- which part of the file a token begins
abbrev pub top_lead_of : Kind → TopLead
top_lead_of (kind.Word word.Extern) = top_lead.Extern
top_lead_of (kind.Word word.Int) = top_lead.Declaration
top_lead_of (kind.Word word.Const) = top_lead.Declaration
top_lead_of (kind.Word word.Static) = top_lead.Kernel
top_lead_of (kind.Word word.Inline) = top_lead.Kernel
top_lead_of (kind.Word word.Void) = top_lead.Kernel
top_lead_of _ = top_lead.Nothing
