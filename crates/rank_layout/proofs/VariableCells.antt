-- The variables' cells by their numbers.
use Rattle.std.proofs.Common.{◌≡◌, ◌<◌, ◌+◌, ℕ, suc, List, [], ◌∷◌, length, get_or, refl, ap, ap₂, ◌∙◌, arith}
use Rattle.schedule_model.specs.Cells.{VarCell}
use Rattle.run_model.specs.Hosts.{variable_cells}
use Rattle.run_model.specs.Constants.{no_constant}
use Rattle.rank_state.specs.Shows.{variables_from}
use Rattle.rank_layout.specs.OwnedLaws.{VariablesStand}

-- where the rest of a list stands from a number on
cells_from : (cell_at : ℕ → VarCell) (xs : List VarCell) (i : ℕ)
    → ((j : ℕ) → j < length xs → cell_at (i + j) ≡ get_or xs j no_constant)
    → variables_from cell_at i (length xs) ≡ xs
cells_from cell_at [] i at = refl
cells_from cell_at (x ∷ xs) i at =
    ap₂ (λ y ys. y ∷ ys) (ap cell_at (let e : i ≡ i + 0 = omega arith in e) ∙ at 0 (omega arith))
    (cells_from cell_at xs (suc i) (λ j lt. ap cell_at (let e : suc i + j ≡ i + suc j = omega arith in e) ∙ at (suc j) (omega arith)))

pub variables_stand : VariablesStand
variables_stand b = cells_from (λ i. get_or (variable_cells b) i no_constant) (variable_cells b) 0
    (λ j lt. ap (λ i. get_or (variable_cells b) i no_constant) (let e : 0 + j ≡ j = omega arith in e))
