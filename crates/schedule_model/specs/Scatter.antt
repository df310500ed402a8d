-- Values written into a buffer cell by cell.
use Rattle.std.specs.Prelude.{◌≡◌, ◌<◌, ℕ, ℤ, Bool, true, false, cond, List, [], ◌∷◌, set}
use Rattle.schedule_model.specs.Cells.{Cell, Data, Variable, DatCell}
use Rattle.schedule_model.specs.Layout.{lookup, among}
use Rattle.schedule_model.specs.Flat.{updated}

-- no cell stands twice in the list
abbrev pub Once : List Cell → Type 0
Once [] = Unit {0}
Once (x ∷ xs) = (among xs x ≡ false) × Once xs

-- the value of each cell that is taken goes to the cell's place
abbrev pub scatter : (DatCell → Bool) → (DatCell → ℕ) → List Cell → List ℤ → List ℤ → List ℤ
scatter taken place [] ws buffer = buffer
scatter taken place (x ∷ xs) [] buffer = buffer
scatter taken place (Data c ∷ xs) (w ∷ ws) buffer = scatter taken place xs ws (cond (taken c) (set buffer (place c) w) buffer)
scatter taken place (Variable v ∷ xs) (w ∷ ws) buffer = scatter taken place xs ws buffer

-- each index of the buffer looks its cell's value up
abbrev pub looked_up : (DatCell → Bool) → (ℕ → DatCell) → List Cell → List ℤ → List ℤ → List ℤ
looked_up taken cell_at xs ws buffer = updated (λ i v. cond (taken (cell_at i)) (lookup xs ws (Data (cell_at i)) v) v) 0 buffer

-- the cells that are taken have their places in a buffer of n values, and each place one cell
pub record Placed (taken : DatCell → Bool) (place : DatCell → ℕ) (cell_at : ℕ → DatCell) (xs : List Cell) (n : ℕ) : Type 0 where
  pub inside : (c : DatCell) → among xs (Data c) ≡ true → taken c ≡ true → (place c < n) × (cell_at (place c) ≡ c)
  pub one_cell : (i : ℕ) → i < n → place (cell_at i) ≡ i
