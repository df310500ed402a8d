-- Which counters the indices of a kernel's arguments name.
use Rattle.std.specs.Prelude.{◌≡◌, ℕ, Bool, true, false, ◌&&◌, ◌||◌, ◌⊎◌, ◌<◌, ◌+◌, List, [], ◌∷◌, nat_eq, slice_index_or}
use Rattle.kernel_model.specs.declared.types.expressions.RExpr.{RExpr}
use Rattle.kernel_model.specs.declared.types.expressions.RExpr.TheVariants.{Number, Scalar, Constant, Arg', Local', Const', Unary', Binary', Choice', Paren', Extremum', Absolute'}
use Rattle.kernel_model.specs.declared.types.statements.RStmt.{RStmt, Block', Declare, SetScalar, SetLocal, SetArg, If', For', Row_of-RStmt, end_of-RStmt, more_of-RStmt}

-- a static index in the expression names the cell; the expression itself is one where `is_index` says so
abbrev pub expr_names : Bool → RExpr → ℕ → Bool
expr_names is_index (Number n) k = false
expr_names is_index (Scalar j) k = is_index && nat_eq j k
expr_names is_index (Constant j) k = false
expr_names is_index (Arg' a form p e at) k = expr_names true e k
expr_names is_index (Local' from count form p e at) k = expr_names false e k
expr_names is_index (Const' from count form p e at) k = expr_names false e k
expr_names is_index (Unary' op p a) k = expr_names is_index a k
expr_names is_index (Binary' op p a q b at) k = expr_names is_index a k || expr_names is_index b k
expr_names is_index (Choice' p x q a r b) k = expr_names false x k || (expr_names false a k || expr_names false b k)
expr_names is_index (Paren' p a) k = expr_names is_index a k
expr_names is_index (Extremum' which p a q b) k = expr_names false a k || expr_names false b k
expr_names is_index (Absolute' p a) k = expr_names false a k

abbrev mutual
  -- an index in the statement names the cell
  pub stmt_names : RStmt → ℕ → Bool
  stmt_names (Block' shape all) k = row_names all k
  stmt_names (Declare from count) k = false
  stmt_names (SetScalar j op opat e) k = expr_names false e k
  stmt_names (SetLocal from count form ix at op opat e) k = expr_names false ix k || expr_names false e k
  stmt_names (SetArg a form ix at op opat e) k = expr_names true ix k || expr_names false e k
  stmt_names (If' e p a q b) k = expr_names false e k || (stmt_names a k || stmt_names b k)
  stmt_names (For' j first past p body) k = stmt_names body k

  -- an index in a statement of the block names the cell
  pub row_names : {m : _} → Row_of-RStmt m → ℕ → Bool
  row_names end_of-RStmt k = false
  row_names (more_of-RStmt first rest) k = stmt_names first k || row_names rest k

-- an index in a statement of the list names the cell
abbrev pub list_names : List RStmt → ℕ → Bool
list_names [] k = false
list_names (st ∷ rest) k = stmt_names st k || list_names rest k

-- turns up to `end` are enough: they are all, or one where the counter isn't named
abbrev pub Enough : Bool → ℕ → ℕ → ℕ → Type 0
Enough is_named first past end = (end ≡ past) ⊎ ((is_named ≡ false) × (first < past) × (end ≡ first + 1))

-- the table says so of the cell; it says so of each cell that it hasn't
abbrev pub names_of : List Bool → ℕ → Bool
names_of named k = slice_index_or named k true
