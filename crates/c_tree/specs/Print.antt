-- The tokens that a tree prints, each with the level of nesting at which it stands.
use Rattle.std.specs.Prelude.{ℕ, suc, Bool, true, false, List, [], ◌∷◌, ◌++◌, Option, Some, None, nat_lt, if◌then◌else◌}
use Rattle.c_tree.specs.declared.expressions.Ident.{Ident}
use Rattle.c_tree.specs.declared.expressions.NumberLiteral.{NumberLiteral}
use Rattle.c_tree.specs.declared.expressions.TextLiteral.{TextLiteral}
use Rattle.c_tree.specs.declared.kernels.ForHeader.{ForHeader}
use Rattle.c_tree.specs.declared.kernels.Param.{Param}
use Rattle.c_tree.specs.declared.hosts.GlobalName.{GlobalName}
use Rattle.c_tree.specs.declared.hosts.ArgIndex.{ArgIndex}
use Rattle.c_tree.specs.declared.hosts.ArgVia.{ArgVia}
use Rattle.c_tree.specs.declared.hosts.ArgVia.TheVariants as via
use Rattle.c_tree.specs.declared.hosts.LoopArg.{LoopArg}
use Rattle.c_tree.specs.declared.hosts.LoopArg.TheVariants as arg
use Rattle.c_tree.specs.declared.lexer.tokens.Kind.{Kind}
use Rattle.c_tree.specs.declared.lexer.tokens.Kind.TheVariants as kind
use Rattle.c_tree.specs.declared.lexer.tokens.Sign.{Sign}
use Rattle.c_tree.specs.declared.lexer.tokens.Sign.TheVariants as sign
use Rattle.c_tree.specs.declared.lexer.tokens.Word.{Word}
use Rattle.c_tree.specs.declared.lexer.tokens.Word.TheVariants as word
use Rattle.c_tree.specs.Signs.{sign_of, unary_sign_of, assign_sign_of, min_max_word_of, access_word_of}
use Rattle.c_tree.specs.Tree.{ExprTree, Number, Name, Index, Deref, Unary, Binary, Choice, Paren, Extremum, Absolute, DeclrTree, Plain, Init, Array, DeclarationTree, PlaceTree, Scalar, Element, Target, AssignmentTree, StmtTree, LocalDeclaration, Block, Empty, Assign, If, IfElse, For, StmtTrees, NoStmt, MoreStmt, KernelTree, TopTree, Extern, ExternArray, FileDeclaration, Kernel, HostForHeaderTree, OpCallTree, CallInit, DeclSet, DeclMap, DeclDat, DeclConst, ParLoop, Printf, PrintDat, HostTree, HostDeclaration, HostBlock, HostEmpty, HostAssign, HostIf, HostIfElse, HostFor, HostCall, HostTrees, NoHost, MoreHost, MainTree, ProgramTree}

-- a printed token: what it is, the number that its node keeps of it, and its level
pub record Mark : Type 0 where
  pub kind : Kind
  pub number : Option ℕ
  pub level : ℕ

-- a sign whose number no node keeps
abbrev pub sign_at : ℕ → Sign → Mark
sign_at k s = record { kind = kind.Sign s; number = None; level = k }

-- a word whose number no node keeps
abbrev pub word_at : ℕ → Word → Mark
word_at k w = record { kind = kind.Word w; number = None; level = k }

-- a sign whose number its node keeps
abbrev pub named_sign : ℕ → Sign → ℕ → Mark
named_sign k s at = record { kind = kind.Sign s; number = Some at; level = k }

-- a word whose number its node keeps
abbrev pub named_word : ℕ → Word → ℕ → Mark
named_word k w at = record { kind = kind.Word w; number = Some at; level = k }

-- a name
abbrev pub ident : ℕ → Ident → Mark
ident k x = record { kind = kind.Name x.name; number = Some x.at; level = k }

-- an integer
abbrev pub figure : ℕ → NumberLiteral → Mark
figure k n = record { kind = kind.Number n.value; number = Some n.at; level = k }

-- a text
abbrev pub label : ℕ → TextLiteral → Mark
label k t = record { kind = kind.Text t.text; number = Some t.at; level = k }

-- how many binary nodes begin here, each the left operand of the one before
abbrev pub chain_of : ExprTree → ℕ
chain_of (Binary op at l r) = suc (chain_of l)
chain_of _ = 0

-- the level of a binary operator's token: one beyond the last where its chain is longer than 128
abbrev pub operator_level : ℕ → ℕ → ℕ
operator_level k chain = if nat_lt 128 chain then 65 else k

-- an expression: all within it stands a level deeper, but a left operand and what stands before `?`
abbrev pub expr : ℕ → ExprTree → List Mark
expr k (Number n) = figure k n ∷ []
expr k (Name x) = ident k x ∷ []
expr k (Index x e) = ident k x ∷ sign_at k sign.LeftBracket ∷ (expr (suc k) e ++ sign_at k sign.RightBracket ∷ [])
expr k (Deref at x) = named_sign k sign.Star at ∷ ident k x ∷ []
expr k (Unary op at e) = named_sign k (unary_sign_of op) at ∷ expr (suc k) e
expr k (Binary op at l r) =
    expr k l ++ (named_sign (operator_level k (suc (chain_of l))) (sign_of op) at ∷ expr (suc k) r)
expr k (Choice at c y n) =
    expr k c ++ (named_sign k sign.Question at ∷ (expr (suc k) y ++ (sign_at k sign.Colon ∷ expr (suc k) n)))
expr k (Paren at e) = named_sign k sign.LeftParen at ∷ (expr (suc k) e ++ sign_at k sign.RightParen ∷ [])
expr k (Extremum w at a b) =
    named_word k (min_max_word_of w) at ∷ sign_at k sign.LeftParen
    ∷ (expr (suc k) a ++ (sign_at k sign.Comma ∷ (expr (suc k) b ++ sign_at k sign.RightParen ∷ [])))
expr k (Absolute at e) =
    named_word k word.Abs at ∷ sign_at k sign.LeftParen ∷ (expr (suc k) e ++ sign_at k sign.RightParen ∷ [])

-- the items with a comma between each two
abbrev pub commas : ℕ → List (List Mark) → List Mark
commas k [] = []
commas k (x ∷ []) = x
commas k (x ∷ y ∷ ys) = x ++ (sign_at k sign.Comma ∷ commas k (y ∷ ys))

-- a declared variable, with its initializer or its size
abbrev pub declr : ℕ → DeclrTree → List Mark
declr k (Plain x) = ident k x ∷ []
declr k (Init x e) = ident k x ∷ sign_at k sign.Assign ∷ expr (suc k) e
declr k (Array x n) = ident k x ∷ sign_at k sign.LeftBracket ∷ figure k n ∷ sign_at k sign.RightBracket ∷ []

-- the tokens of each declared variable
abbrev pub declrs : ℕ → List DeclrTree → List (List Mark)
declrs k [] = []
declrs k (d ∷ ds) = declr k d ∷ declrs k ds

-- the word where the test holds
abbrev pub word_if : Bool → ℕ → Word → List Mark
word_if true k w = word_at k w ∷ []
word_if false k w = []

-- a declaration, whose node keeps the number of its `int`
abbrev pub vars : ℕ → DeclarationTree → List Mark
vars k v =
    word_if v.is_const k word.Const ++ (named_word k word.Int v.at ∷ (commas k (declrs k v.declrs) ++ sign_at k sign.Semicolon ∷ []))

-- the target of an assignment
abbrev pub place : ℕ → PlaceTree → List Mark
place k (Scalar x) = ident k x ∷ []
place k (Element x e) = ident k x ∷ sign_at k sign.LeftBracket ∷ (expr (suc k) e ++ sign_at k sign.RightBracket ∷ [])
place k (Target at x) = named_sign k sign.Star at ∷ ident k x ∷ []

-- an assignment and its `;`
abbrev pub assignment : ℕ → AssignmentTree → List Mark
assignment k a =
    place k a.place ++ (named_sign k (assign_sign_of a.op) a.at ∷ (expr (suc k) a.value ++ sign_at k sign.Semicolon ∷ []))

-- the head of a kernel's `for`
abbrev pub counter : ℕ → ForHeader → List Mark
counter k c =
    named_word k word.For c.at ∷ sign_at k sign.LeftParen ∷ word_at k word.Int ∷ ident k c.name ∷ sign_at k sign.Assign ∷ figure k c.from
    ∷ sign_at k sign.Semicolon ∷ ident k c.tested ∷ sign_at k sign.Less ∷ figure k c.to ∷ sign_at k sign.Semicolon ∷ ident k c.stepped
    ∷ sign_at k sign.PlusPlus ∷ sign_at k sign.RightParen ∷ []

-- the head of an `if`
abbrev pub condition : ℕ → ℕ → ExprTree → List Mark
condition k at e =
    named_word k word.If at ∷ sign_at k sign.LeftParen ∷ (expr (suc k) e ++ sign_at k sign.RightParen ∷ [])

abbrev mutual
  -- a statement of a kernel: the statements within it stand a level deeper
  pub stmt : ℕ → StmtTree → List Mark
  stmt k (LocalDeclaration v) = vars k v
  stmt k (Block at ss) = named_sign k sign.LeftBrace at ∷ (stmts (suc k) ss ++ sign_at k sign.RightBrace ∷ [])
  stmt k (Empty at) = named_sign k sign.Semicolon at ∷ []
  stmt k (Assign a) = assignment k a
  stmt k (If at e s) = condition k at e ++ stmt (suc k) s
  stmt k (IfElse at e s t) = condition k at e ++ (stmt (suc k) s ++ (word_at k word.Else ∷ stmt (suc k) t))
  stmt k (For c s) = counter k c ++ stmt (suc k) s

  -- the statements of a block or a kernel, in order
  pub stmts : ℕ → StmtTrees → List Mark
  stmts k NoStmt = []
  stmts k (MoreStmt s ss) = stmt k s ++ stmts k ss

-- a parameter of a kernel
abbrev pub param : Param → List Mark
param p = word_if p.is_const 0 word.Const ++ (word_at 0 word.Int ∷ sign_at 0 sign.Star ∷ ident 0 p.name ∷ [])

-- the tokens of each parameter
abbrev pub params : List Param → List (List Mark)
params [] = []
params (p ∷ ps) = param p ∷ params ps

-- a kernel, whose statements stand at level 1
abbrev pub kernel : KernelTree → List Mark
kernel f =
    word_if f.is_static 0 word.Static
    ++ (word_if f.is_inline 0 word.Inline
    ++ (word_at 0 word.Void ∷ ident 0 f.name ∷ sign_at 0 sign.LeftParen
    ∷ (commas 0 (params f.params)
    ++ (sign_at 0 sign.RightParen ∷ sign_at 0 sign.LeftBrace ∷ (stmts 1 f.body ++ sign_at 0 sign.RightBrace ∷ [])))))

-- a part of the file before `main`
abbrev pub top : TopTree → List Mark
top (Extern x) = word_at 0 word.Extern ∷ word_at 0 word.Int ∷ ident 0 x ∷ sign_at 0 sign.Semicolon ∷ []
top (ExternArray x) =
    word_at 0 word.Extern ∷ word_at 0 word.Int ∷ ident 0 x ∷ sign_at 0 sign.LeftBracket ∷ sign_at 0 sign.RightBracket
    ∷ sign_at 0 sign.Semicolon ∷ []
top (FileDeclaration v) = vars 1 v
top (Kernel f) = kernel f

-- the parts of the file before `main`, in order
abbrev pub tops : List TopTree → List Mark
tops [] = []
tops (t ∷ ts) = top t ++ tops ts

-- a global, whose node keeps the number of its `&`, where it has one
abbrev pub glob : ℕ → GlobalName → List Mark
glob k g = and_marks g.ampersand k ++ ident k g.name ∷ []
  where
    and_marks : Option ℕ → ℕ → List Mark
    and_marks None k = []
    and_marks (Some at) k = named_sign k sign.And at ∷ []

-- the head of a `for` of `main`
abbrev pub host_counter : ℕ → HostForHeaderTree → List Mark
host_counter k c =
    named_word k word.For c.at ∷ sign_at k sign.LeftParen ∷ word_at k word.Int ∷ ident k c.name ∷ sign_at k sign.Assign
    ∷ (expr (suc k) c.from
    ++ (sign_at k sign.Semicolon ∷ ident k c.tested ∷ sign_at k sign.Less
    ∷ (expr (suc k) c.to ++ (sign_at k sign.Semicolon ∷ ident k c.stepped ∷ sign_at k sign.PlusPlus ∷ sign_at k sign.RightParen ∷ []))))

-- the index of an argument, whose node keeps the number of its `-`, or else of its number
abbrev pub arg_index : ℕ → ArgIndex → List Mark
arg_index k i = index_by i.is_negative k i
  where
    index_by : Bool → ℕ → ArgIndex → List Mark
    index_by true k i = named_sign k sign.Minus i.at ∷ (record { kind = kind.Number i.value; number = None; level = k }) ∷ []
    index_by false k i = (record { kind = kind.Number i.value; number = Some i.at; level = k }) ∷ []

-- what an argument's index goes through: a map's name or `OP_ID`
abbrev pub via_mark : ℕ → ArgVia → Mark
via_mark k (via.Map x) = ident k x
via_mark k (via.Identity at) = named_word k word.OpId at

-- an argument of a loop
abbrev pub argument : ℕ → LoopArg → List Mark
argument k (arg.Dat at dat index through dim text access access_at) =
    named_word k word.OpArgDat at ∷ sign_at k sign.LeftParen ∷ ident k dat ∷ sign_at k sign.Comma
    ∷ (arg_index k index ++ (sign_at k sign.Comma ∷ via_mark k through ∷ sign_at k sign.Comma ∷ figure k dim ∷ sign_at k sign.Comma
    ∷ label k text ∷ sign_at k sign.Comma ∷ named_word k (access_word_of access) access_at ∷ sign_at k sign.RightParen ∷ []))
argument k (arg.Global at g dim text access access_at) =
    named_word k word.OpArgGbl at ∷ sign_at k sign.LeftParen
    ∷ (glob k g ++ (sign_at k sign.Comma ∷ figure k dim ∷ sign_at k sign.Comma ∷ label k text ∷ sign_at k sign.Comma
    ∷ named_word k (access_word_of access) access_at ∷ sign_at k sign.RightParen ∷ []))

-- the arguments after the first three, each behind a comma
abbrev pub arguments : ℕ → List LoopArg → List Mark
arguments k [] = []
arguments k (a ∷ as_) = sign_at k sign.Comma ∷ (argument k a ++ arguments k as_)

-- the values behind the text of `op_printf`, each behind a comma
abbrev pub values : ℕ → List ExprTree → List Mark
values k [] = []
values k (e ∷ es) = sign_at k sign.Comma ∷ (expr (suc k) e ++ values k es)

-- the end of a call
abbrev pub close : ℕ → List Mark
close k = sign_at k sign.RightParen ∷ sign_at k sign.Semicolon ∷ []

-- a call of the OP2 library and its `;`
abbrev pub call : ℕ → OpCallTree → List Mark
call k (CallInit at n) =
    named_word k word.OpInit at ∷ sign_at k sign.LeftParen ∷ word_at k word.Argc ∷ sign_at k sign.Comma ∷ word_at k word.Argv
    ∷ sign_at k sign.Comma ∷ figure k n ∷ close k
call k (DeclSet at x e t) =
    word_at k word.OpSet ∷ ident k x ∷ sign_at k sign.Assign ∷ named_word k word.OpDeclSet at ∷ sign_at k sign.LeftParen
    ∷ (expr (suc k) e ++ (sign_at k sign.Comma ∷ label k t ∷ close k))
call k (DeclMap at x from to n d t) =
    word_at k word.OpMap ∷ ident k x ∷ sign_at k sign.Assign ∷ named_word k word.OpDeclMap at ∷ sign_at k sign.LeftParen ∷ ident k from
    ∷ sign_at k sign.Comma ∷ ident k to ∷ sign_at k sign.Comma ∷ figure k n ∷ sign_at k sign.Comma ∷ ident k d ∷ sign_at k sign.Comma
    ∷ label k t ∷ close k
call k (DeclDat at x s n u d t) =
    word_at k word.OpDat ∷ ident k x ∷ sign_at k sign.Assign ∷ named_word k word.OpDeclDat at ∷ sign_at k sign.LeftParen ∷ ident k s
    ∷ sign_at k sign.Comma ∷ figure k n ∷ sign_at k sign.Comma ∷ label k u ∷ sign_at k sign.Comma ∷ ident k d ∷ sign_at k sign.Comma
    ∷ label k t ∷ close k
call k (DeclConst at n t g) =
    named_word k word.OpDeclConst at ∷ sign_at k sign.LeftParen ∷ figure k n ∷ sign_at k sign.Comma ∷ label k t ∷ sign_at k sign.Comma
    ∷ (glob k g ++ close k)
call k (ParLoop at f t s xs) =
    named_word k word.OpParLoop at ∷ sign_at k sign.LeftParen ∷ ident k f ∷ sign_at k sign.Comma ∷ label k t ∷ sign_at k sign.Comma
    ∷ ident k s ∷ (arguments k xs ++ close k)
call k (Printf at t es) = named_word k word.OpPrintf at ∷ sign_at k sign.LeftParen ∷ label k t ∷ (values k es ++ close k)
call k (PrintDat at x t) =
    named_word k word.OpPrintDatToTxtfile at ∷ sign_at k sign.LeftParen ∷ ident k x ∷ sign_at k sign.Comma ∷ label k t ∷ close k

abbrev mutual
  -- a statement of `main`: the statements within it stand a level deeper
  pub host : ℕ → HostTree → List Mark
  host k (HostDeclaration v) = vars k v
  host k (HostBlock at ss) = named_sign k sign.LeftBrace at ∷ (hosts (suc k) ss ++ sign_at k sign.RightBrace ∷ [])
  host k (HostEmpty at) = named_sign k sign.Semicolon at ∷ []
  host k (HostAssign a) = assignment k a
  host k (HostIf at e s) = condition k at e ++ host (suc k) s
  host k (HostIfElse at e s t) = condition k at e ++ (host (suc k) s ++ (word_at k word.Else ∷ host (suc k) t))
  host k (HostFor c s) = host_counter k c ++ host (suc k) s
  host k (HostCall c) = call k c

  -- the statements of a block of `main`, or of all of it, in order
  pub hosts : ℕ → HostTrees → List Mark
  hosts k NoHost = []
  hosts k (MoreHost s ss) = host k s ++ hosts k ss

-- `*argv[]` where it has brackets, else `**argv`
abbrev pub argv_marks : Bool → List Mark
argv_marks true = sign_at 0 sign.Star ∷ word_at 0 word.Argv ∷ sign_at 0 sign.LeftBracket ∷ sign_at 0 sign.RightBracket ∷ []
argv_marks false = sign_at 0 sign.Star ∷ sign_at 0 sign.Star ∷ word_at 0 word.Argv ∷ []

-- `return` and its number, where `main` has one
abbrev pub return_marks : Option NumberLiteral → List Mark
return_marks None = []
return_marks (Some n) = word_at 0 word.Return ∷ figure 0 n ∷ sign_at 0 sign.Semicolon ∷ []

-- `main`, whose statements stand at level 1
abbrev pub main : MainTree → List Mark
main m =
    word_at 0 word.Int ∷ named_word 0 word.Main m.at ∷ sign_at 0 sign.LeftParen ∷ word_at 0 word.Int ∷ word_at 0 word.Argc
    ∷ sign_at 0 sign.Comma ∷ word_at 0 word.Char
    ∷ (argv_marks m.argv_has_brackets
    ++ (sign_at 0 sign.RightParen ∷ sign_at 0 sign.LeftBrace
    ∷ (hosts 1 m.body ++ (named_word 0 word.OpExit m.exit_at ∷ sign_at 0 sign.LeftParen ∷ sign_at 0 sign.RightParen
    ∷ sign_at 0 sign.Semicolon ∷ (return_marks m.returned ++ sign_at 0 sign.RightBrace ∷ [])))))

-- all tokens of a source, in order
abbrev pub program : ProgramTree → List Mark
program p = tops p.tops ++ main p.main
