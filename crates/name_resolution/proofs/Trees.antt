-- What resolved kernels keep, said of them without where they lie in memory.
use Rattle.std.proofs.Common.{◌≡◌, ◌≢◌, ℕ, pos, ◌+◌, ◌<◌, ◌≤◌}
use Rattle.kernel_model.specs.declared.types.expressions.ElementForm.{ElementForm}
use Rattle.kernel_model.specs.declared.types.expressions.ElementForm.TheVariants as form
use Rattle.kernel_model.specs.View.{RExprTree, Number, Scalar, Constant, Arg, Local, Const, Unary, Binary, Choice, Paren, Extremum, Absolute, RStmtTree, RStmtTrees, Block, Declare, SetScalar, SetLocal, SetArg, If, For, NoStmt, MoreStmt}

abbrev pub FormIn : ElementForm → RExprTree → Type 0
FormIn form.Index e = Unit {0}
FormIn form.Deref e = e ≡ Number (pos 0)

-- what they name is there
module _ (params scratch consts : ℕ) where
  abbrev pub ExprIn : RExprTree → Type 0
  ExprIn (Number n) = Unit {0}
  ExprIn (Scalar k) = k < scratch
  ExprIn (Constant k) = k < consts
  ExprIn (Arg a f e at) = (a < params) × FormIn f e × ExprIn e
  ExprIn (Local from count f e at) = (from + count ≤ scratch) × FormIn f e × ExprIn e
  ExprIn (Const from count f e at) = (from + count ≤ consts) × FormIn f e × ExprIn e
  ExprIn (Unary op a) = ExprIn a
  ExprIn (Binary op a b at) = ExprIn a × ExprIn b
  ExprIn (Choice c a b) = ExprIn c × ExprIn a × ExprIn b
  ExprIn (Paren a) = ExprIn a
  ExprIn (Extremum w a b) = ExprIn a × ExprIn b
  ExprIn (Absolute a) = ExprIn a

  abbrev mutual
    pub StmtIn : RStmtTree → Type 0
    StmtIn (Block all) = RowIn all
    StmtIn (Declare from count) = from + count ≤ scratch
    StmtIn (SetScalar k op op_at e) = (k < scratch) × ExprIn e
    StmtIn (SetLocal from count f i at op op_at e) = (from + count ≤ scratch) × FormIn f i × ExprIn i × ExprIn e
    StmtIn (SetArg a f i at op op_at e) = (a < params) × FormIn f i × ExprIn i × ExprIn e
    StmtIn (If e a b) = ExprIn e × StmtIn a × StmtIn b
    StmtIn (For k first past body) = (k < scratch) × StmtIn body

    pub RowIn : RStmtTrees → Type 0
    RowIn NoStmt = Unit {0}
    RowIn (MoreStmt x xs) = StmtIn x × RowIn xs

-- they store to those cells of the locals alone that may be stored to
module _ (may : ℕ → Type 0) where
  abbrev mutual
    pub StoresIn : RStmtTree → Type 0
    StoresIn (Block all) = RowStoresIn all
    StoresIn (Declare from count) = (k : ℕ) → from ≤ k → k < from + count → may k
    StoresIn (SetScalar k op op_at e) = may k
    StoresIn (SetLocal from count f i at op op_at e) = (k : ℕ) → from ≤ k → k < from + count → may k
    StoresIn (SetArg a f i at op op_at e) = Unit {0}
    StoresIn (If e a b) = StoresIn a × StoresIn b
    StoresIn (For k first past body) = may k × StoresIn body

    pub RowStoresIn : RStmtTrees → Type 0
    RowStoresIn NoStmt = Unit {0}
    RowStoresIn (MoreStmt x xs) = StoresIn x × RowStoresIn xs

-- no counter is stored to in the body of its `for`
abbrev mutual
  pub CountersIn : RStmtTree → Type 0
  CountersIn (Block all) = RowCountersIn all
  CountersIn (Declare from count) = Unit {0}
  CountersIn (SetScalar k op op_at e) = Unit {0}
  CountersIn (SetLocal from count f i at op op_at e) = Unit {0}
  CountersIn (SetArg a f i at op op_at e) = Unit {0}
  CountersIn (If e a b) = CountersIn a × CountersIn b
  CountersIn (For k first past body) = StoresIn (λ j. j ≢ k) body × CountersIn body

  pub RowCountersIn : RStmtTrees → Type 0
  RowCountersIn NoStmt = Unit {0}
  RowCountersIn (MoreStmt x xs) = CountersIn x × RowCountersIn xs
