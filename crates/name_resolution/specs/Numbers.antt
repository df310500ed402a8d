-- The numbers of resolved kernels that are values of their machine types.
use Rattle.std.specs.Prelude.{◌<◌, ◌^◌, List, [], ◌∷◌, FitsSigned}
use Rattle.std.specs.Int.{w32}
use Rattle.kernel_model.specs.View.{RExprTree, Number, Scalar, Constant, Arg, Local, Const, Unary, Binary, Choice, Paren, Extremum, Absolute, RStmtTree, RStmtTrees, Block, Declare, SetScalar, SetLocal, SetArg, If, For, NoStmt, MoreStmt, RKernelTree}

-- of an expression
abbrev pub ExprFits : RExprTree → Type 0
ExprFits (Number n) = FitsSigned w32 n
ExprFits (Scalar k) = Unit {0}
ExprFits (Constant k) = Unit {0}
ExprFits (Arg a f e at) = ExprFits e
ExprFits (Local from count f e at) = ExprFits e
ExprFits (Const from count f e at) = ExprFits e
ExprFits (Unary op a) = ExprFits a
ExprFits (Binary op a b at) = ExprFits a × ExprFits b
ExprFits (Choice c a b) = ExprFits c × ExprFits a × ExprFits b
ExprFits (Paren a) = ExprFits a
ExprFits (Extremum w a b) = ExprFits a × ExprFits b
ExprFits (Absolute a) = ExprFits a

abbrev mutual
  -- of a statement: its numbers, and the bounds of its `for`s
  pub StmtFits : RStmtTree → Type 0
  StmtFits (Block all) = RowFits all
  StmtFits (Declare from count) = Unit {0}
  StmtFits (SetScalar k op op_at e) = ExprFits e
  StmtFits (SetLocal from count f i at op op_at e) = ExprFits i × ExprFits e
  StmtFits (SetArg a f i at op op_at e) = ExprFits i × ExprFits e
  StmtFits (If e a b) = ExprFits e × StmtFits a × StmtFits b
  StmtFits (For k first past body) = (past < 2 ^ 31) × StmtFits body

  -- of statements
  pub RowFits : RStmtTrees → Type 0
  RowFits NoStmt = Unit {0}
  RowFits (MoreStmt x xs) = StmtFits x × RowFits xs

-- each number and each bound of a `for` of these kernels is one of `i32`
abbrev pub KernelsFit : List RKernelTree → Type 0
KernelsFit [] = Unit {0}
KernelsFit (k ∷ ks) = StmtFits k.statement × KernelsFit ks
