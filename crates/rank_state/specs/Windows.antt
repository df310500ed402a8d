-- The cells of a layout that spans of a buffer, and scalars behind them, stand for.
use Rattle.std.specs.Prelude.{◌≡◌, ◌<◌, ◌+◌, ℕ, zero, suc, ℤ, pos, Bool, false, ◌||◌, ◌==◌, List, [], ◌∷◌, ◌++◌, get_or, set}
use Rattle.op_num.specs.Reduction.{Reduction, unit_of, merged}
use Rattle.schedule_model.specs.Cells.{Cell, Data, Variable, DatCell, VarCell}
use Rattle.rank_state.specs.declared.spans.Span.{Span}
use Rattle.rank_state.specs.declared.scalars.Operation.{Operation}
use Rattle.rank_state.specs.declared.scalars.Operation.TheVariants.{Sum, Least, Greatest}
use Rattle.rank_state.specs.declared.scalars.Scalar.{Scalar}
use Rattle.rank_state.specs.declared.scalars.Scalar.TheVariants.{Value, Amount}

-- the cells at so many indices from one on
abbrev pub cells_from : (ℕ → DatCell) → ℕ → ℕ → List Cell
cells_from cell_at at zero = []
cells_from cell_at at (suc n) = Data (cell_at at) ∷ cells_from cell_at (suc at) n

-- the cells of the program that the spans of a buffer have
abbrev pub span_cells : (ℕ → DatCell) → List Span → List Cell
span_cells cell_at [] = []
span_cells cell_at (s ∷ ss) = cells_from cell_at s.at s.dim ++ span_cells cell_at ss

-- the test is as the span's mark at each of its cells
abbrev pub Marked : (ℕ → Bool) → List Span → Type 0
Marked taken [] = Unit {0}
Marked taken (s ∷ ss) = ((j : ℕ) → j < s.dim → taken (s.at + j) ≡ s.writes) × Marked taken ss

-- ---- scalars

-- how amounts merge, in the words of the model
abbrev pub operation : Operation → Reduction
operation Sum = Reduction.Add
operation Least = Reduction.Min
operation Greatest = Reduction.Max

-- the index of a scalar's cell among those of all variables
abbrev pub index : Scalar → ℕ
index (Value at) = at
index (Amount at slot how) = at

-- what a scalar's window begins with
abbrev pub first : List ℤ → Scalar → ℤ
first variables (Value at) = get_or variables at (pos 0)
first variables (Amount at slot how) = unit_of (operation how)

-- what the scalars' windows begin with
abbrev pub firsts : List ℤ → List Scalar → List ℤ
firsts variables [] = []
firsts variables (x ∷ xs) = first variables x ∷ firsts variables xs

-- the variables' cells that the scalars are
abbrev pub scalar_cells : (ℕ → VarCell) → List Scalar → List Cell
scalar_cells variable_at [] = []
scalar_cells variable_at (x ∷ xs) = Variable (variable_at (index x)) ∷ scalar_cells variable_at xs

-- a window's amount goes into its partial
abbrev pub amount : Scalar → ℤ → List ℤ → List ℤ
amount (Value at) w partials = partials
amount (Amount at slot how) w partials = set partials slot (merged (operation how) (get_or partials slot (pos 0)) w)

-- each window's amount goes into its partial
abbrev pub amounts : List Scalar → List ℤ → List ℤ → List ℤ
amounts [] ws partials = partials
amounts (x ∷ xs) [] partials = partials
amounts (x ∷ xs) (w ∷ ws) partials = amounts xs ws (amount x w partials)

-- a scalar merges into the partial of this slot
abbrev pub is_slot : ℕ → Scalar → Bool
is_slot i (Value at) = false
is_slot i (Amount at slot how) = i == slot

-- one of the scalars merges into the partial of this slot
abbrev pub has_slot : ℕ → List Scalar → Bool
has_slot i [] = false
has_slot i (x ∷ xs) = is_slot i x || has_slot i xs

-- each is a variable below n
abbrev pub Reads : ℕ → List Scalar → Type 0
Reads n [] = Unit {0}
Reads n (x ∷ xs) = (index x < n) × Reads n xs

-- the slot of an amount is below n
abbrev pub InSlots : ℕ → Scalar → Type 0
InSlots n (Value at) = Unit {0}
InSlots n (Amount at slot how) = slot < n

-- the slots of the amounts are below n
abbrev pub Merges : ℕ → List Scalar → Type 0
Merges n [] = Unit {0}
Merges n (x ∷ xs) = InSlots n x × Merges n xs
