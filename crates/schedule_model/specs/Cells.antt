-- Cells and the integers that they hold.
use Rattle.std.specs.Prelude.{ℕ, ℤ, Bool, false, ◌&&◌, ◌==◌, cond, FitsSigned}
use mir.Syntax.{w32}

-- a component of an element of a dat
pub record DatCell : Type 0 where
  pub dat : ℕ
  pub element : ℕ  -- original number
  pub component : ℕ

-- a component of a variable
pub record VarCell : Type 0 where
  pub variable : ℕ
  pub component : ℕ

-- a component of a dat's element, or of a variable; constants are variables
pub data Cell : Type 0 where
  Data : DatCell → Cell
  Variable : VarCell → Cell

-- the value of each cell
abbrev pub Store : Type 0
Store = Cell → ℤ

-- each value is an `i32`
abbrev pub InRange : Store → Type 0
InRange s = (c : Cell) → FitsSigned w32 (s c)

-- the two cells are one
abbrev pub same_cell : Cell → Cell → Bool
same_cell (Data a) (Data b) = (a.dat == b.dat) && ((a.element == b.element) && (a.component == b.component))
same_cell (Variable a) (Variable b) = (a.variable == b.variable) && (a.component == b.component)
same_cell _ _ = false

-- the store with v in the cell c
abbrev pub with_cell : Cell → ℤ → Store → Store
with_cell c v s x = cond (same_cell x c) v (s x)
