-- Resolved kernels as trees, without where they lie in memory. The expressions of `main` have the same trees.
use Rattle.std.specs.Prelude.{ℕ, ℤ, List, [], ◌∷◌, map}
use Rattle.c_tree.specs.declared.lexer.tokens.Pos.{Pos}
use Rattle.c_tree.specs.declared.expressions.BinaryOp.{BinaryOp}
use Rattle.c_tree.specs.declared.expressions.UnaryOp.{UnaryOp}
use Rattle.c_tree.specs.declared.expressions.MinMax.{MinMax}
use Rattle.c_tree.specs.declared.declarations.AssignOp.{AssignOp}
use Rattle.kernel_model.specs.declared.types.expressions.ElementForm.{ElementForm}
use Rattle.kernel_model.specs.declared.types.expressions.RExpr.{RExpr}
use Rattle.kernel_model.specs.declared.types.expressions.RExpr.TheVariants as e
use Rattle.kernel_model.specs.declared.types.statements.RStmt.{RStmt, Row_of-RStmt, end_of-RStmt, more_of-RStmt}
use Rattle.kernel_model.specs.declared.types.statements.RStmt.TheVariants as s
use Rattle.kernel_model.specs.declared.types.kernels.RKernel.{RKernel}
use Rattle.kernel_model.specs.declared.types.kernels.ConstDecl.{ConstDecl}
use Rattle.kernel_model.specs.declared.types.kernels.Resolved.{Resolved}

-- an expression
pub data RExprTree : Type 0 where
  Number : ℤ → RExprTree
  Scalar : ℕ → RExprTree
  Constant : ℕ → RExprTree
  Arg : (param : ℕ) (form : ElementForm) (index : RExprTree) (at : Pos) → RExprTree
  Local : (from count : ℕ) (form : ElementForm) (index : RExprTree) (at : Pos) → RExprTree
  Const : (from count : ℕ) (form : ElementForm) (index : RExprTree) (at : Pos) → RExprTree
  Unary : UnaryOp → RExprTree → RExprTree
  Binary : BinaryOp → RExprTree → RExprTree → Pos → RExprTree
  Choice : RExprTree → RExprTree → RExprTree → RExprTree
  Paren : RExprTree → RExprTree
  Extremum : MinMax → RExprTree → RExprTree → RExprTree
  Absolute : RExprTree → RExprTree

mutual
  -- a statement
  pub data RStmtTree : Type 0 where
    Block : RStmtTrees → RStmtTree
    Declare : (from count : ℕ) → RStmtTree
    SetScalar : (cell : ℕ) (op : AssignOp) (op_at : Pos) (value : RExprTree) → RStmtTree
    SetLocal : (from count : ℕ) (form : ElementForm) (index : RExprTree) (at : Pos)
        (op : AssignOp) (op_at : Pos) (value : RExprTree) → RStmtTree
    SetArg : (param : ℕ) (form : ElementForm) (index : RExprTree) (at : Pos)
        (op : AssignOp) (op_at : Pos) (value : RExprTree) → RStmtTree
    If : RExprTree → RStmtTree → RStmtTree → RStmtTree
    For : (counter first past : ℕ) (body : RStmtTree) → RStmtTree

  -- statements in order
  pub data RStmtTrees : Type 0 where
    NoStmt : RStmtTrees
    MoreStmt : RStmtTree → RStmtTrees → RStmtTrees

-- a kernel; `param_places` has the place of each parameter's name
pub record RKernelTree : Type 0 where
  pub name : List ℕ
  pub params : ℕ
  pub scratch : ℕ
  pub param_places : List Pos
  pub statement : RStmtTree

-- the kernels of a program and its constants
pub record ResolvedTree : Type 0 where
  pub kernels : List RKernelTree
  pub consts : List ConstDecl

-- ---- the trees of the program

-- of an expression
abbrev pub rexpr_of : RExpr → RExprTree
rexpr_of (e.Number n) = Number n
rexpr_of (e.Scalar k) = Scalar k
rexpr_of (e.Constant k) = Constant k
rexpr_of (e.Arg' param form p i at) = Arg param form (rexpr_of i) at
rexpr_of (e.Local' from count form p i at) = Local from count form (rexpr_of i) at
rexpr_of (e.Const' from count form p i at) = Const from count form (rexpr_of i) at
rexpr_of (e.Unary' op p a) = Unary op (rexpr_of a)
rexpr_of (e.Binary' op p a q b at) = Binary op (rexpr_of a) (rexpr_of b) at
rexpr_of (e.Choice' p c q a r b) = Choice (rexpr_of c) (rexpr_of a) (rexpr_of b)
rexpr_of (e.Paren' p a) = Paren (rexpr_of a)
rexpr_of (e.Extremum' which p a q b) = Extremum which (rexpr_of a) (rexpr_of b)
rexpr_of (e.Absolute' p a) = Absolute (rexpr_of a)

abbrev mutual
  -- of a statement
  pub rstmt_of : RStmt → RStmtTree
  rstmt_of (s.Block' shape all) = Block (rstmts_of_row all)
  rstmt_of (s.Declare from count) = Declare from count
  rstmt_of (s.SetScalar cell op op_at v) = SetScalar cell op op_at (rexpr_of v)
  rstmt_of (s.SetLocal from count form i at op op_at v) = SetLocal from count form (rexpr_of i) at op op_at (rexpr_of v)
  rstmt_of (s.SetArg param form i at op op_at v) = SetArg param form (rexpr_of i) at op op_at (rexpr_of v)
  rstmt_of (s.If' c p a q b) = If (rexpr_of c) (rstmt_of a) (rstmt_of b)
  rstmt_of (s.For' k first past p body) = For k first past (rstmt_of body)

  -- of the statements of a block
  pub rstmts_of_row : {m : _} → Row_of-RStmt m → RStmtTrees
  rstmts_of_row end_of-RStmt = NoStmt
  rstmts_of_row (more_of-RStmt first rest) = MoreStmt (rstmt_of first) (rstmts_of_row rest)

-- the statements of a vector
abbrev pub rstmts_of : List RStmt → RStmtTrees
rstmts_of [] = NoStmt
rstmts_of (x ∷ xs) = MoreStmt (rstmt_of x) (rstmts_of xs)

-- of a kernel
abbrev pub rkernel_of : RKernel → RKernelTree
rkernel_of k = record {
  name = k.name;
  params = k.params;
  scratch = k.scratch;
  param_places = k.body.param_places.items;
  statement = rstmt_of k.body.statement;
}

-- of the kernels and constants of a program
abbrev pub resolved_of : Resolved → ResolvedTree
resolved_of r = record { kernels = map rkernel_of r.kernels.items; consts = r.consts.items }
