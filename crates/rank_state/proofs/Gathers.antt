-- Values that spans and scalars gather are those of their cells.
use Rattle.std.proofs.Common.{◌≡◌, ℕ, zero, suc, ℤ, pos, ◌+◌, ◌<◌, ◌≤◌, refl, sym, ap, ap₂, ◌∙◌, arith, List, [], ◌∷◌, ◌++◌, map, length, get_or, take, drop}
use Rattle.std.proofs.lemmas.List.{map-append}
use Rattle.std.proofs.Math.Seq.{drop-cons}
use Rattle.schedule_model.specs.Cells.{Cell, Data, Variable, DatCell, VarCell}
use Rattle.rank_state.specs.declared.spans.Span.{Span}
use Rattle.rank_state.specs.declared.scalars.Scalar.{Scalar}
use Rattle.rank_state.specs.Spans.{Within, gathered}
use Rattle.rank_state.specs.Windows.{cells_from, span_cells, index, first, firsts, scalar_cells}

-- a buffer's cells have its values
abbrev pub AtIndex : (ℕ → DatCell) → (Cell → ℤ) → List ℤ → Type 0
AtIndex cell_at value m = (i : ℕ) → i < length m → value (Data (cell_at i)) ≡ get_or m i (pos 0)

pub gather_one : (cell_at : ℕ → DatCell) (value : Cell → ℤ) (m : List ℤ) → AtIndex cell_at value m → (at n : ℕ) → at + n ≤ length m → take n (drop at m) ≡ map value (cells_from cell_at at n)
gather_one cell_at value m v at zero h = refl
gather_one cell_at value m v at (suc n) h =
    ap (take (suc n)) (drop-cons m at (pos 0) (omega arith))
    ∙ (ap (λ x. x ∷ take n (drop (suc at) m)) (sym (v at (omega arith)))
    ∙ ap (λ xs. value (Data (cell_at at)) ∷ xs) (gather_one cell_at value m v (suc at) n (omega arith)))

pub gather_cells : (cell_at : ℕ → DatCell) (value : Cell → ℤ) (m : List ℤ) → AtIndex cell_at value m → (ss : List Span) → Within (length m) ss → gathered m ss ≡ map value (span_cells cell_at ss)
gather_cells cell_at value m v [] h = refl
gather_cells cell_at value m v (s ∷ ss) h =
    ap₂ (λ x y. x ++ y) (gather_one cell_at value m v s.at s.dim h.0) (gather_cells cell_at value m v ss h.1)
    ∙ sym (map-append value (cells_from cell_at s.at s.dim) (span_cells cell_at ss))

-- each scalar's cell has its first value
abbrev pub AtFirst : (ℕ → VarCell) → (Cell → ℤ) → List ℤ → List Scalar → Type 0
AtFirst variable_at value variables [] = Unit {0}
AtFirst variable_at value variables (x ∷ xs) = (value (Variable (variable_at (index x))) ≡ first variables x) × AtFirst variable_at value variables xs

pub gather_scalars : (variable_at : ℕ → VarCell) (value : Cell → ℤ) (variables : List ℤ) (xs : List Scalar)
    → AtFirst variable_at value variables xs → firsts variables xs ≡ map value (scalar_cells variable_at xs)
gather_scalars variable_at value variables [] h = refl
gather_scalars variable_at value variables (x ∷ xs) h =
    ap₂ (λ a b. a ∷ b) (sym h.0) (gather_scalars variable_at value variables xs h.1)
