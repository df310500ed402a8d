-- What each form prints, put before the kinds that follow it: `stmt_first s rest` is the kinds of what the statement s prints,
-- and then `rest`. A list that is made from its end grows in this way. `program` of c_tree (specs/Print.antt)
-- is the same from the front, with numbers and levels of nesting.
use Rattle.std.specs.Prelude.{ℕ, Bool, true, false, List, [], ◌∷◌, Option, Some, None}
use Rattle.c_tree.specs.declared.lexer.tokens.Kind.{Kind}
use Rattle.c_tree.specs.declared.lexer.tokens.Kind.TheVariants as kind
use Rattle.c_tree.specs.declared.lexer.tokens.Sign.{Sign}
use Rattle.c_tree.specs.declared.lexer.tokens.Sign.TheVariants as sign
use Rattle.c_tree.specs.declared.lexer.tokens.Word.{Word}
use Rattle.c_tree.specs.declared.lexer.tokens.Word.TheVariants as word
use Rattle.c_tree.specs.declared.expressions.Ident.{Ident}
use Rattle.c_tree.specs.declared.expressions.NumberLiteral.{NumberLiteral}
use Rattle.c_tree.specs.declared.expressions.TextLiteral.{TextLiteral}
use Rattle.c_tree.specs.declared.kernels.ForHeader.{ForHeader}
use Rattle.c_tree.specs.declared.kernels.Param.{Param}
use Rattle.c_tree.specs.declared.hosts.GlobalName.{GlobalName}
use Rattle.c_tree.specs.declared.hosts.ArgIndex.{ArgIndex}
use Rattle.c_tree.specs.declared.hosts.ArgVia.{ArgVia}
use Rattle.c_tree.specs.declared.hosts.ArgVia.TheVariants as via
use Rattle.c_tree.specs.declared.hosts.LoopArg.{LoopArg}
use Rattle.c_tree.specs.declared.hosts.LoopArg.TheVariants as arg
use Rattle.c_tree.specs.Signs.{sign_of, unary_sign_of, assign_sign_of, min_max_word_of, access_word_of}
use Rattle.c_tree.specs.Tree.{ExprTree, Number, Name, Index, Deref, Unary, Binary, Choice, Paren, Extremum, Absolute, DeclrTree, Plain, Init, Array, DeclarationTree, PlaceTree, Scalar, Element, Target, AssignmentTree, StmtTree, LocalDeclaration, Block, Empty, Assign, If, IfElse, For, StmtTrees, NoStmt, MoreStmt, KernelTree, TopTree, Extern, ExternArray, FileDeclaration, Kernel, HostForHeaderTree, OpCallTree, CallInit, DeclSet, DeclMap, DeclDat, DeclConst, ParLoop, Printf, PrintDat, HostTree, HostDeclaration, HostBlock, HostEmpty, HostAssign, HostIf, HostIfElse, HostFor, HostCall, HostTrees, NoHost, MoreHost, MainTree, ProgramTree}

-- a sign
abbrev pub sign_first : Sign → List Kind → List Kind
sign_first s rest = kind.Sign s ∷ rest

-- a word
abbrev pub word_first : Word → List Kind → List Kind
word_first w rest = kind.Word w ∷ rest

-- a name
abbrev pub name_first : Ident → List Kind → List Kind
name_first x rest = kind.Name x.name ∷ rest

-- an integer
abbrev pub number_first : NumberLiteral → List Kind → List Kind
number_first n rest = kind.Number n.value ∷ rest

-- a text
abbrev pub text_first : TextLiteral → List Kind → List Kind
text_first t rest = kind.Text t.text ∷ rest

-- the word where the test holds
abbrev pub word_first_if : Bool → Word → List Kind → List Kind
word_first_if true w rest = word_first w rest
word_first_if false w rest = rest

-- an expression
abbrev pub expr_first : ExprTree → List Kind → List Kind
expr_first (Number n) rest = number_first n rest
expr_first (Name x) rest = name_first x rest
expr_first (Index x e) rest = name_first x (sign_first sign.LeftBracket (expr_first e (sign_first sign.RightBracket rest)))
expr_first (Deref at x) rest = sign_first sign.Star (name_first x rest)
expr_first (Unary op at e) rest = sign_first (unary_sign_of op) (expr_first e rest)
expr_first (Binary op at l r) rest = expr_first l (sign_first (sign_of op) (expr_first r rest))
expr_first (Choice at c y n) rest =
    expr_first c (sign_first sign.Question (expr_first y (sign_first sign.Colon (expr_first n rest))))
expr_first (Paren at e) rest = sign_first sign.LeftParen (expr_first e (sign_first sign.RightParen rest))
expr_first (Extremum w at a b) rest =
    word_first (min_max_word_of w)
    (sign_first sign.LeftParen (expr_first a (sign_first sign.Comma (expr_first b (sign_first sign.RightParen rest)))))
expr_first (Absolute at e) rest =
    word_first word.Abs (sign_first sign.LeftParen (expr_first e (sign_first sign.RightParen rest)))

-- `x[i]`
abbrev pub indexed_first : Ident → ExprTree → List Kind → List Kind
indexed_first x e rest =
    name_first x (sign_first sign.LeftBracket (expr_first e (sign_first sign.RightBracket rest)))

-- `(a)`
abbrev pub enclosed_first : ExprTree → List Kind → List Kind
enclosed_first e rest = sign_first sign.LeftParen (expr_first e (sign_first sign.RightParen rest))

-- a declared variable, with its initializer or its size
abbrev pub declr_first : DeclrTree → List Kind → List Kind
declr_first (Plain x) rest = name_first x rest
declr_first (Init x e) rest = name_first x (sign_first sign.Assign (expr_first e rest))
declr_first (Array x n) rest =
    name_first x (sign_first sign.LeftBracket (number_first n (sign_first sign.RightBracket rest)))

-- the declarators behind the first, each behind a comma
abbrev pub more_declrs_first : List DeclrTree → List Kind → List Kind
more_declrs_first [] rest = rest
more_declrs_first (d ∷ ds) rest = sign_first sign.Comma (declr_first d (more_declrs_first ds rest))

-- the declared variables of one declaration, with a comma between each two
abbrev pub declrs_first : List DeclrTree → List Kind → List Kind
declrs_first [] rest = rest
declrs_first (d ∷ ds) rest = declr_first d (more_declrs_first ds rest)

-- a declaration
abbrev pub declaration_first : DeclarationTree → List Kind → List Kind
declaration_first v rest =
    word_first_if v.is_const word.Const (word_first word.Int (declrs_first v.declrs (sign_first sign.Semicolon rest)))

-- the target of an assignment
abbrev pub place_first : PlaceTree → List Kind → List Kind
place_first (Scalar x) rest = name_first x rest
place_first (Element x e) rest = indexed_first x e rest
place_first (Target at x) rest = sign_first sign.Star (name_first x rest)

-- an assignment and its `;`
abbrev pub assignment_first : AssignmentTree → List Kind → List Kind
assignment_first a rest =
    place_first a.place (sign_first (assign_sign_of a.op) (expr_first a.value (sign_first sign.Semicolon rest)))

-- the head of a kernel's `for`
abbrev pub header_first : ForHeader → List Kind → List Kind
header_first c rest =
    word_first word.For (sign_first sign.LeftParen
    (word_first word.Int (name_first c.name
    (sign_first sign.Assign
    (number_first c.from (sign_first sign.Semicolon
    (name_first c.tested (sign_first sign.Less
    (number_first c.to (sign_first sign.Semicolon
    (name_first c.stepped (sign_first sign.PlusPlus (sign_first sign.RightParen rest)))))))))))))

-- the head of an `if`
abbrev pub condition_first : ExprTree → List Kind → List Kind
condition_first e rest = word_first word.If (enclosed_first e rest)

abbrev mutual
  -- a statement of a kernel
  pub stmt_first : StmtTree → List Kind → List Kind
  stmt_first (LocalDeclaration v) rest = declaration_first v rest
  stmt_first (Block at ss) rest =
      sign_first sign.LeftBrace (stmts_first ss (sign_first sign.RightBrace rest))
  stmt_first (Empty at) rest = sign_first sign.Semicolon rest
  stmt_first (Assign a) rest = assignment_first a rest
  stmt_first (If at e s) rest = condition_first e (stmt_first s rest)
  stmt_first (IfElse at e s t) rest =
      condition_first e (stmt_first s (word_first word.Else (stmt_first t rest)))
  stmt_first (For c s) rest = header_first c (stmt_first s rest)

  -- the statements of a block or a kernel
  pub stmts_first : StmtTrees → List Kind → List Kind
  stmts_first NoStmt rest = rest
  stmts_first (MoreStmt s ss) rest = stmt_first s (stmts_first ss rest)

-- a parameter of a kernel
abbrev pub param_first : Param → List Kind → List Kind
param_first p rest =
    word_first_if p.is_const word.Const (word_first word.Int (sign_first sign.Star (name_first p.name rest)))

-- the parameters behind the first, each behind a comma
abbrev pub more_params_first : List Param → List Kind → List Kind
more_params_first [] rest = rest
more_params_first (p ∷ ps) rest = sign_first sign.Comma (param_first p (more_params_first ps rest))

-- the parameters of a kernel, with a comma between each two
abbrev pub params_first : List Param → List Kind → List Kind
params_first [] rest = rest
params_first (p ∷ ps) rest = param_first p (more_params_first ps rest)

-- a kernel
abbrev pub kernel_first : KernelTree → List Kind → List Kind
kernel_first f rest =
    word_first_if f.is_static word.Static
    (word_first_if f.is_inline word.Inline
    (word_first word.Void
    (name_first f.name (sign_first sign.LeftParen
    (params_first f.params
    (sign_first sign.RightParen (sign_first sign.LeftBrace (stmts_first f.body (sign_first sign.RightBrace rest)))))))))

-- a part of the file before `main`
abbrev pub top_first : TopTree → List Kind → List Kind
top_first (Extern x) rest =
    word_first word.Extern (word_first word.Int (name_first x (sign_first sign.Semicolon rest)))
top_first (ExternArray x) rest =
    word_first word.Extern
    (word_first word.Int (name_first x (sign_first sign.LeftBracket (sign_first sign.RightBracket (sign_first sign.Semicolon rest)))))
top_first (FileDeclaration v) rest = declaration_first v rest
top_first (Kernel f) rest = kernel_first f rest

-- the parts of the file before `main`
abbrev pub tops_first : List TopTree → List Kind → List Kind
tops_first [] rest = rest
tops_first (t ∷ ts) rest = top_first t (tops_first ts rest)

-- the `&` of a global, where it has one
abbrev pub ampersand_first : Option ℕ → List Kind → List Kind
ampersand_first None rest = rest
ampersand_first (Some at) rest = sign_first sign.And rest

-- a global: its name, behind `&` or not
abbrev pub global_first : GlobalName → List Kind → List Kind
global_first g rest = ampersand_first g.ampersand (name_first g.name rest)

-- the head of a `for` of `main`
abbrev pub host_header_first : HostForHeaderTree → List Kind → List Kind
host_header_first c rest =
    word_first word.For (sign_first sign.LeftParen
    (word_first word.Int (name_first c.name
    (sign_first sign.Assign
    (expr_first c.from (sign_first sign.Semicolon
    (name_first c.tested (sign_first sign.Less
    (expr_first c.to (sign_first sign.Semicolon
    (name_first c.stepped (sign_first sign.PlusPlus (sign_first sign.RightParen rest)))))))))))))

-- `-` where the test holds
abbrev pub minus_first_if : Bool → List Kind → List Kind
minus_first_if true rest = sign_first sign.Minus rest
minus_first_if false rest = rest

-- the index of an argument
abbrev pub index_first : ArgIndex → List Kind → List Kind
index_first i rest = minus_first_if i.is_negative (kind.Number i.value ∷ rest)

-- what an argument's index goes through: a map's name or `OP_ID`
abbrev pub via_first : ArgVia → List Kind → List Kind
via_first (via.Map x) rest = name_first x rest
via_first (via.Identity at) rest = word_first word.OpId rest

-- `, dim, "type", access)`: the end of an argument
abbrev pub arg_end_first : NumberLiteral → TextLiteral → Word → List Kind → List Kind
arg_end_first dim text access rest =
    sign_first sign.Comma
    (number_first dim (sign_first sign.Comma
    (text_first text (sign_first sign.Comma (word_first access (sign_first sign.RightParen rest))))))

-- an argument of a loop
abbrev pub arg_first : LoopArg → List Kind → List Kind
arg_first (arg.Dat at dat index through dim text access access_at) rest =
    word_first word.OpArgDat
    (sign_first sign.LeftParen
    (name_first dat (sign_first sign.Comma
    (index_first index (sign_first sign.Comma (via_first through (arg_end_first dim text (access_word_of access) rest)))))))
arg_first (arg.Global at g dim text access access_at) rest =
    word_first word.OpArgGbl (sign_first sign.LeftParen (global_first g (arg_end_first dim text (access_word_of access) rest)))

-- the arguments behind the first three, each behind a comma
abbrev pub args_first : List LoopArg → List Kind → List Kind
args_first [] rest = rest
args_first (a ∷ as_) rest = sign_first sign.Comma (arg_first a (args_first as_ rest))

-- the values behind a text, each behind a comma
abbrev pub values_first : List ExprTree → List Kind → List Kind
values_first [] rest = rest
values_first (e ∷ es) rest = sign_first sign.Comma (expr_first e (values_first es rest))

-- `);`: the end of a call
abbrev pub close_first : List Kind → List Kind
close_first rest = sign_first sign.RightParen (sign_first sign.Semicolon rest)

-- `, "label");`: the end of a declaration by a call
abbrev pub label_first : TextLiteral → List Kind → List Kind
label_first t rest = sign_first sign.Comma (text_first t (close_first rest))

-- `type name = call (`: the front of a declaration by a call
abbrev pub decl_front : Word → Ident → Word → List Kind → List Kind
decl_front type x call rest =
    word_first type (name_first x (sign_first sign.Assign (word_first call (sign_first sign.LeftParen rest))))

-- a call of the OP2 library and its `;`
abbrev pub call_first : OpCallTree → List Kind → List Kind
call_first (CallInit at n) rest =
    word_first word.OpInit
    (sign_first sign.LeftParen
    (word_first word.Argc (sign_first sign.Comma (word_first word.Argv (sign_first sign.Comma (number_first n (close_first rest)))))))
call_first (DeclSet at x e t) rest = decl_front word.OpSet x word.OpDeclSet (expr_first e (label_first t rest))
call_first (DeclMap at x from to n d t) rest =
    decl_front word.OpMap x word.OpDeclMap
    (name_first from (sign_first sign.Comma
    (name_first to (sign_first sign.Comma (number_first n (sign_first sign.Comma (name_first d (label_first t rest))))))))
call_first (DeclDat at x s n u d t) rest =
    decl_front word.OpDat x word.OpDeclDat
    (name_first s (sign_first sign.Comma
    (number_first n (sign_first sign.Comma (text_first u (sign_first sign.Comma (name_first d (label_first t rest))))))))
call_first (DeclConst at n t g) rest =
    word_first word.OpDeclConst
    (sign_first sign.LeftParen
    (number_first n (sign_first sign.Comma (text_first t (sign_first sign.Comma (global_first g (close_first rest)))))))
call_first (ParLoop at f t s xs) rest =
    word_first word.OpParLoop
    (sign_first sign.LeftParen
    (name_first f (sign_first sign.Comma (text_first t (sign_first sign.Comma (name_first s (args_first xs (close_first rest))))))))
call_first (Printf at t es) rest =
    word_first word.OpPrintf (sign_first sign.LeftParen (text_first t (values_first es (close_first rest))))
call_first (PrintDat at x t) rest =
    word_first word.OpPrintDatToTxtfile (sign_first sign.LeftParen (name_first x (label_first t rest)))

abbrev mutual
  -- a statement of `main`
  pub host_first : HostTree → List Kind → List Kind
  host_first (HostDeclaration v) rest = declaration_first v rest
  host_first (HostBlock at ss) rest =
      sign_first sign.LeftBrace (hosts_first ss (sign_first sign.RightBrace rest))
  host_first (HostEmpty at) rest = sign_first sign.Semicolon rest
  host_first (HostAssign a) rest = assignment_first a rest
  host_first (HostIf at e s) rest = condition_first e (host_first s rest)
  host_first (HostIfElse at e s t) rest =
      condition_first e (host_first s (word_first word.Else (host_first t rest)))
  host_first (HostFor c s) rest = host_header_first c (host_first s rest)
  host_first (HostCall c) rest = call_first c rest

  -- the statements of a block of `main`, or of all of it
  pub hosts_first : HostTrees → List Kind → List Kind
  hosts_first NoHost rest = rest
  hosts_first (MoreHost s ss) rest = host_first s (hosts_first ss rest)

-- `*argv[]` where it has brackets, else `**argv`
abbrev pub argv_first : Bool → List Kind → List Kind
argv_first true rest =
    sign_first sign.Star (word_first word.Argv (sign_first sign.LeftBracket (sign_first sign.RightBracket rest)))
argv_first false rest = sign_first sign.Star (sign_first sign.Star (word_first word.Argv rest))

-- `return` and its number, where `main` has one
abbrev pub return_first : Option NumberLiteral → List Kind → List Kind
return_first None rest = rest
return_first (Some n) rest = word_first word.Return (number_first n (sign_first sign.Semicolon rest))

-- `op_exit(); return 0; }`: the end of `main`
abbrev pub exit_first : Option NumberLiteral → List Kind → List Kind
exit_first n rest =
    word_first word.OpExit
    (sign_first sign.LeftParen
    (sign_first sign.RightParen (sign_first sign.Semicolon (return_first n (sign_first sign.RightBrace rest)))))

-- `int main(int argc, char **argv) {`: the front of `main`
abbrev pub main_front : Bool → List Kind → List Kind
main_front brackets rest =
    word_first word.Int (word_first word.Main
    (sign_first sign.LeftParen
    (word_first word.Int (word_first word.Argc
    (sign_first sign.Comma
    (word_first word.Char (argv_first brackets (sign_first sign.RightParen (sign_first sign.LeftBrace rest)))))))))

-- `main`
abbrev pub main_first : MainTree → List Kind → List Kind
main_first m rest = main_front m.argv_has_brackets (hosts_first m.body (exit_first m.returned rest))

-- a whole source
abbrev pub program_first : ProgramTree → List Kind → List Kind
program_first p rest = tops_first p.tops (main_first p.main rest)
