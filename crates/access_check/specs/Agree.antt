-- Sets of components that have the same of those below the dims, and counters that have their cells.
use Rattle.std.specs.Prelude.{◌≡◌, ℕ, ◌<◌, ◌^◌, List, Bool, false}
use Rattle.kernel_model.specs.declared.types.statements.RStmt.{RStmt, Block', Declare, SetScalar, SetLocal, SetArg, If', For', Row_of-RStmt, end_of-RStmt, more_of-RStmt}
use Rattle.kernel_model.specs.Obeys.{Mode, mode_at}
use Rattle.kernel_model.specs.Walk.{Covered}
use Rattle.access_check.specs.Indices.{stmt_names}

-- both have the same components below the dims
abbrev pub Agree : List Mode → Covered → Covered → Type 0
Agree modes c d = (a i : ℕ) → i < (mode_at modes a).dim → c a i ≡ d a i

-- each counter has its cell, its values are in the range of `i32`, and where a static index names it the table says so
module _ (cells : ℕ) (named : ℕ → Bool) where
  abbrev mutual
    -- of a statement
    pub CountersFit : RStmt → Type 0
    CountersFit (Block' shape all) = RowCountersFit all
    CountersFit (Declare from count) = Unit {0}
    CountersFit (SetScalar k op opat e) = Unit {0}
    CountersFit (SetLocal from count form ix at op opat e) = Unit {0}
    CountersFit (SetArg a form ix at op opat e) = Unit {0}
    CountersFit (If' e p a q b) = CountersFit a × CountersFit b
    CountersFit (For' k first past p body) = (k < cells) × (past < 2 ^ 31) × (named k ≡ false → stmt_names body k ≡ false)
        × CountersFit body

    -- of each statement of a block
    pub RowCountersFit : {m : _} → Row_of-RStmt m → Type 0
    RowCountersFit end_of-RStmt = Unit {0}
    RowCountersFit (more_of-RStmt first rest) = CountersFit first × RowCountersFit rest
