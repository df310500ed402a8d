-- What a resolved kernel is: all that it names is there, and no `for` stores to its own counter.
use Rattle.std.specs.Prelude.{◌≡◌, ◌≢◌, ℕ, pos, ◌+◌, ◌<◌, ◌≤◌, ◌^◌, List, [], ◌∷◌, length, FitsSigned}
use Rattle.std.specs.Int.{w32}
use Rattle.kernel_model.specs.declared.types.expressions.ElementForm.{ElementForm}
use Rattle.kernel_model.specs.declared.types.expressions.ElementForm.TheVariants.{Index, Deref}
use Rattle.kernel_model.specs.declared.types.expressions.RExpr.{RExpr}
use Rattle.kernel_model.specs.declared.types.expressions.RExpr.TheVariants.{Number, Scalar, Constant, Arg', Local', Const', Unary', Binary', Choice', Paren', Extremum', Absolute'}
use Rattle.kernel_model.specs.declared.types.statements.RStmt.{RStmt, Block', Declare, SetScalar, SetLocal, SetArg, If', For', Row_of-RStmt, end_of-RStmt, more_of-RStmt}
use Rattle.kernel_model.specs.declared.types.kernels.RKernel.{RKernel}
use Rattle.kernel_model.specs.declared.types.kernels.ConstDecl.{ConstDecl}
use Rattle.kernel_model.specs.declared.types.kernels.Resolved.{Resolved}

-- `*p` is `p[0]`
abbrev pub IsFormOf : ElementForm → RExpr → Type 0
IsFormOf Index e = Unit {0}
IsFormOf Deref e = e ≡ Number (pos 0)

-- the parameters, the cells of the locals and the cells of the constants that a kernel names are there
module _ (params scratch consts : ℕ) where
  -- of an expression
  abbrev pub ExprWithin : RExpr → Type 0
  ExprWithin (Number n) = FitsSigned w32 n
  ExprWithin (Scalar k) = k < scratch
  ExprWithin (Constant k) = k < consts
  ExprWithin (Arg' a form p e at) = (a < params) × IsFormOf form e × ExprWithin e
  ExprWithin (Local' from count form p e at) = (from + count ≤ scratch) × IsFormOf form e × ExprWithin e
  ExprWithin (Const' from count form p e at) = (from + count ≤ consts) × IsFormOf form e × ExprWithin e
  ExprWithin (Unary' op p a) = ExprWithin a
  ExprWithin (Binary' op p a q b at) = ExprWithin a × ExprWithin b
  ExprWithin (Choice' p c q a r b) = ExprWithin c × ExprWithin a × ExprWithin b
  ExprWithin (Paren' p a) = ExprWithin a
  ExprWithin (Extremum' which p a q b) = ExprWithin a × ExprWithin b
  ExprWithin (Absolute' p a) = ExprWithin a

  abbrev mutual
    -- of a statement
    pub StmtWithin : RStmt → Type 0
    StmtWithin (Block' shape all) = RowWithin all
    StmtWithin (Declare from count) = from + count ≤ scratch
    StmtWithin (SetScalar k op opat e) = (k < scratch) × ExprWithin e
    StmtWithin (SetLocal from count form ix at op opat e) = (from + count ≤ scratch) × IsFormOf form ix × ExprWithin ix × ExprWithin e
    StmtWithin (SetArg a form ix at op opat e) = (a < params) × IsFormOf form ix × ExprWithin ix × ExprWithin e
    StmtWithin (If' e p a q b) = ExprWithin e × StmtWithin a × StmtWithin b
    StmtWithin (For' k first past p body) = (k < scratch) × (past < 2 ^ 31) × StmtWithin body

    -- of each statement of a block
    pub RowWithin : {m : _} → Row_of-RStmt m → Type 0
    RowWithin end_of-RStmt = Unit {0}
    RowWithin (more_of-RStmt first rest) = StmtWithin first × RowWithin rest

-- the cell is none of those
abbrev pub MissesCell : ℕ → ℕ → ℕ → Type 0
MissesCell cell from count = (k : ℕ) → from ≤ k → k < from + count → k ≢ cell

-- the statement stores to those cells of the locals alone that may be stored to
module _ (may : ℕ → Type 0) where
  abbrev mutual
    -- of a statement
    pub StoresOnly : RStmt → Type 0
    StoresOnly (Block' shape all) = RowStoresOnly all
    StoresOnly (Declare from count) = (k : ℕ) → from ≤ k → k < from + count → may k
    StoresOnly (SetScalar k op opat e) = may k
    StoresOnly (SetLocal from count form ix at op opat e) = (k : ℕ) → from ≤ k → k < from + count → may k
    StoresOnly (SetArg a form ix at op opat e) = Unit {0}
    StoresOnly (If' e p a q b) = StoresOnly a × StoresOnly b
    StoresOnly (For' k first past p body) = may k × StoresOnly body

    -- of each statement of a block
    pub RowStoresOnly : {m : _} → Row_of-RStmt m → Type 0
    RowStoresOnly end_of-RStmt = Unit {0}
    RowStoresOnly (more_of-RStmt first rest) = StoresOnly first × RowStoresOnly rest

-- no counter is stored to in the body of its `for`
abbrev mutual
  -- of a statement
  pub CountersKept : RStmt → Type 0
  CountersKept (Block' shape all) = RowCountersKept all
  CountersKept (Declare from count) = Unit {0}
  CountersKept (SetScalar j op opat e) = Unit {0}
  CountersKept (SetLocal from count form ix at op opat e) = Unit {0}
  CountersKept (SetArg a form ix at op opat e) = Unit {0}
  CountersKept (If' e p a q b) = CountersKept a × CountersKept b
  CountersKept (For' k first past p body) = StoresOnly (λ j. j ≢ k) body × CountersKept body

  -- of each statement of a block
  pub RowCountersKept : {m : _} → Row_of-RStmt m → Type 0
  RowCountersKept end_of-RStmt = Unit {0}
  RowCountersKept (more_of-RStmt first rest) = CountersKept first × RowCountersKept rest

-- a resolved kernel, over so many cells of constants
pub record IsResolved (consts : ℕ) (k : RKernel) : Type 0 where
  pub within : StmtWithin k.params k.scratch consts k.body.statement
  pub counters : CountersKept k.body.statement
  pub places : length k.body.param_places.items ≡ k.params

-- the cells that constants take
abbrev pub cells_of : List ConstDecl → ℕ
cells_of [] = 0
cells_of (c ∷ cs) = c.count + cells_of cs

-- each constant's cells follow those of the constant before it
abbrev pub FollowOn : ℕ → List ConstDecl → Type 0
FollowOn n [] = Unit {0}
FollowOn n (c ∷ cs) = (c.from ≡ n) × FollowOn (n + c.count) cs

-- each of the kernels is resolved
abbrev pub AreResolved : ℕ → List RKernel → Type 0
AreResolved consts [] = Unit {0}
AreResolved consts (k ∷ ks) = IsResolved consts k × AreResolved consts ks

-- the kernels and constants of a program whose names were resolved
pub record IsResolvedProgram (r : Resolved) : Type 0 where
  pub consts : FollowOn 0 r.consts.items
  pub kernels : AreResolved (cells_of r.consts.items) r.kernels.items
