-- The trees without where they lie in memory. Types that hold no box and no vector are those of src/. A number that stands by itself is
-- that of a token, which src/ names.
use Rattle.std.specs.Prelude.{ℕ, Bool, List, Option}
use Rattle.c_tree.specs.declared.lexer.tokens.Pos.{Pos}
use Rattle.c_tree.specs.declared.expressions.Ident.{Ident}
use Rattle.c_tree.specs.declared.expressions.NumberLiteral.{NumberLiteral}
use Rattle.c_tree.specs.declared.expressions.TextLiteral.{TextLiteral}
use Rattle.c_tree.specs.declared.expressions.BinaryOp.{BinaryOp}
use Rattle.c_tree.specs.declared.expressions.UnaryOp.{UnaryOp}
use Rattle.c_tree.specs.declared.declarations.AssignOp.{AssignOp}
use Rattle.c_tree.specs.declared.expressions.MinMax.{MinMax}
use Rattle.c_tree.specs.declared.kernels.ForHeader.{ForHeader}
use Rattle.c_tree.specs.declared.kernels.Param.{Param}
use Rattle.c_tree.specs.declared.hosts.GlobalName.{GlobalName}
use Rattle.c_tree.specs.declared.hosts.LoopArg.{LoopArg}

-- an expression
pub data ExprTree : Type 0 where
  -- `5`
  Number : NumberLiteral → ExprTree
  -- `x`
  Name : Ident → ExprTree
  -- `x[i]`
  Index : Ident → ExprTree → ExprTree
  -- `*x`
  Deref : ℕ → Ident → ExprTree
  -- `-a`
  Unary : UnaryOp → ℕ → ExprTree → ExprTree
  -- `a + b`
  Binary : BinaryOp → ℕ → ExprTree → ExprTree → ExprTree
  -- `c ? a : b`
  Choice : ℕ → ExprTree → ExprTree → ExprTree → ExprTree
  -- `(a)`
  Paren : ℕ → ExprTree → ExprTree
  -- `MIN(a, b)` or `MAX(a, b)`
  Extremum : MinMax → ℕ → ExprTree → ExprTree → ExprTree
  -- `ABS(a)`
  Absolute : ℕ → ExprTree → ExprTree

-- one declared variable: `x`, `x = a` or `x[5]`
pub data DeclrTree : Type 0 where
  Plain : Ident → DeclrTree
  Init : Ident → ExprTree → DeclrTree
  Array : Ident → NumberLiteral → DeclrTree

-- `int x, y = 1;` or `const int x = 1;`
pub record DeclarationTree : Type 0 where
  pub is_const : Bool
  pub at : ℕ
  pub declrs : List DeclrTree

-- the target of an assignment: `x`, `x[i]` or `*x`
pub data PlaceTree : Type 0 where
  Scalar : Ident → PlaceTree
  Element : Ident → ExprTree → PlaceTree
  Target : ℕ → Ident → PlaceTree

-- `x += a;`
pub record AssignmentTree : Type 0 where
  pub place : PlaceTree
  pub op : AssignOp
  pub at : ℕ
  pub value : ExprTree

mutual
  -- a statement of a kernel
  pub data StmtTree : Type 0 where
    LocalDeclaration : DeclarationTree → StmtTree
    Block : ℕ → StmtTrees → StmtTree
    Empty : ℕ → StmtTree
    Assign : AssignmentTree → StmtTree
    If : ℕ → ExprTree → StmtTree → StmtTree
    IfElse : ℕ → ExprTree → StmtTree → StmtTree → StmtTree
    For : ForHeader → StmtTree → StmtTree

  -- the statements of a block or a kernel, in order
  pub data StmtTrees : Type 0 where
    NoStmt : StmtTrees
    MoreStmt : StmtTree → StmtTrees → StmtTrees

-- `static inline void f(int *x, ..) { .. }`, each of the first two words or not
pub record KernelTree : Type 0 where
  pub is_static : Bool
  pub is_inline : Bool
  pub name : Ident
  pub params : List Param
  pub body : StmtTrees

-- a part of the file before `main`: `extern int x;`, `extern int x[];`, a declaration or a kernel
pub data TopTree : Type 0 where
  Extern : Ident → TopTree
  ExternArray : Ident → TopTree
  FileDeclaration : DeclarationTree → TopTree
  Kernel : KernelTree → TopTree

-- `for (int i = a; i < b; i++)` in `main`: the counter's name three times, as it stands in the source
pub record HostForHeaderTree : Type 0 where
  pub at : ℕ
  pub name : Ident
  pub from : ExprTree
  pub tested : Ident
  pub to : ExprTree
  pub stepped : Ident

-- a call of the OP2 library
pub data OpCallTree : Type 0 where
  -- `op_init(argc, argv, level);`
  CallInit : ℕ → NumberLiteral → OpCallTree
  -- `op_set name = op_decl_set(size, "label");`
  DeclSet : ℕ → Ident → ExprTree → TextLiteral → OpCallTree
  -- `op_map name = op_decl_map(from, to, dim, entries, "label");`
  DeclMap : (at : ℕ) (name from to : Ident) (dim : NumberLiteral) (entries : Ident) (label : TextLiteral) → OpCallTree
  -- `op_dat name = op_decl_dat(set, dim, "type", values, "label");`
  DeclDat : (at : ℕ) (name set : Ident) (dim : NumberLiteral) (type_label : TextLiteral) (values : Ident) (label : TextLiteral) → OpCallTree
  -- `op_decl_const(dim, "type", variable);`
  DeclConst : ℕ → NumberLiteral → TextLiteral → GlobalName → OpCallTree
  -- `op_par_loop(kernel, "label", set, arguments ..);`
  ParLoop : ℕ → Ident → TextLiteral → Ident → List LoopArg → OpCallTree
  -- `op_printf("text", values ..);`
  Printf : ℕ → TextLiteral → List ExprTree → OpCallTree
  -- `op_print_dat_to_txtfile(dat, "file");`
  PrintDat : ℕ → Ident → TextLiteral → OpCallTree

mutual
  -- a statement of `main`
  pub data HostTree : Type 0 where
    HostDeclaration : DeclarationTree → HostTree
    HostBlock : ℕ → HostTrees → HostTree
    HostEmpty : ℕ → HostTree
    HostAssign : AssignmentTree → HostTree
    HostIf : ℕ → ExprTree → HostTree → HostTree
    HostIfElse : ℕ → ExprTree → HostTree → HostTree → HostTree
    HostFor : HostForHeaderTree → HostTree → HostTree
    HostCall : OpCallTree → HostTree

  -- the statements of a block of `main`, or of all of it, in order
  pub data HostTrees : Type 0 where
    NoHost : HostTrees
    MoreHost : HostTree → HostTrees → HostTrees

-- `int main(int argc, char **argv) { .. op_exit(); return 0; }`, `argv` also as `*argv[]`, `return` also left out
pub record MainTree : Type 0 where
  pub at : ℕ
  pub argv_has_brackets : Bool
  pub body : HostTrees
  pub exit_at : ℕ
  pub returned : Option NumberLiteral

-- a source; `places` holds where each of its tokens stands
pub record ProgramTree : Type 0 where
  pub tops : List TopTree
  pub main : MainTree
  pub places : List Pos
