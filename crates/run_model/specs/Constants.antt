-- The constants that kernels read, as cells of variables.
use Rattle.std.specs.Prelude.{◌≡◌, ◌<◌, ◌+◌, ℕ, true, length, sum_by, All, Some, slice_index_or}
use Rattle.schedule_model.specs.Cells.{Variable, VarCell}
use Rattle.schedule_model.specs.ByArguments.{ReadConstants}
use Rattle.bound_program.specs.Values.{BoundValue, SiteValue}
use Rattle.bound_program.specs.Fits.{SiteFits, ConstantsFit, constant_cells, var_at}
use Rattle.run_model.specs.Kernels.{constants}
use Rattle.run_model.specs.Arguments.{argument_at, entries, dat_width, var_width, is_constant}

-- what stands for a constant that is not there
abbrev pub no_constant : VarCell
no_constant = record { variable = 0; component = 0 }

-- the cell is that of constant j: of a variable with constants, so far behind its first one
pub record IsNumbered (b : BoundValue) (j : ℕ) (c : VarCell) : Type 0 where
  pub variable : c.variable < length b.vars
  pub component : c.component < var_width b c.variable
  pub first : ℕ
  pub constant : (var_at b c.variable).constant ≡ Some first
  pub number : first + c.component ≡ j

-- the constants that kernels read are the cells of constant variables, each by its number
pub record AreNumbered (b : BoundValue) : Type 0 where
  pub count : length (constants b) ≡ sum_by constant_cells b.vars
  pub cells : (j : ℕ) → j < length (constants b) → IsNumbered b j (slice_index_or (constants b) j no_constant)
  pub constant : All (λ v. is_constant b (Variable v) ≡ true) (constants b)
  pub numbers : (v first i : ℕ)
      → v < length b.vars
      → (var_at b v).constant ≡ Some first
      → i < var_width b v
      → (first + i < length (constants b))
      × (slice_index_or (constants b) (first + i) no_constant ≡ record { variable = v; component = i })

-- so where each constant has cells of its own
abbrev pub ConstantsAreNumbered : Type 0
ConstantsAreNumbered = (b : BoundValue) → ConstantsFit b → AreNumbered b

-- a loop reads constants at most
abbrev pub ConstantsAreRead : Type 0
ConstantsAreRead =
    (b : BoundValue) (site : SiteValue) (e : ℕ)
    → SiteFits b site
    → ReadConstants (entries b) (dat_width b) (var_width b) (argument_at site) (length site.args) e (is_constant b)
