-- The walk over statements in a list.
use Rattle.std.specs.Prelude.{ℕ, List, [], ◌∷◌, Option, Bool}
use Rattle.kernel_model.specs.declared.types.statements.RStmt.{RStmt}
use Rattle.kernel_model.specs.Obeys.{Mode, Counters}
use Rattle.kernel_model.specs.Walk.{Breach, Covered, stmt_found, covered_after}
use Rattle.access_check.specs.Agree.{CountersFit}

-- what every path has assigned after them
abbrev pub list_covered : List RStmt → Counters → Covered → Covered
list_covered [] cs c = c
list_covered (st ∷ rest) cs c = list_covered rest cs (covered_after st cs c)

-- what is found after them
abbrev pub list_found : List Mode → List RStmt → Counters → Covered → Option Breach → Option Breach
list_found modes [] cs c found = found
list_found modes (st ∷ rest) cs c found = list_found modes rest cs (covered_after st cs c) (stmt_found modes st cs c found)

-- the counters of each have their cells, and the table says which are named
abbrev pub ListFits : ℕ → (ℕ → Bool) → List RStmt → Type 0
ListFits cells named [] = Unit {0}
ListFits cells named (st ∷ rest) = CountersFit cells named st × ListFits cells named rest
