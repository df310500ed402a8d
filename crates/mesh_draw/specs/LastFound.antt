-- What the search for the last print of a dat finds.
use Rattle.std.specs.Prelude.{◌≡◌, ℕ, Option, Some, None}
use Rattle.bound_program.specs.Values.{BoundValue}
use Rattle.mesh_draw.specs.Pieces.{lines_before}
use Rattle.mesh_draw.specs.Last.{IsLastBefore, PrintNone}
use Rattle.mesh_draw.specs.declared.output_pieces.last.LastPrint.{LastPrint}

-- of the items before one, the last print of the dat, and the LFs before it
pub record IsLastPrint (b : BoundValue) (to dat : ℕ) (p : LastPrint) : Type 0 where
  pub item : ℕ
  pub is : IsLastBefore b to dat item p.file.now
  pub before : p.before ≡ lines_before b item

-- it, or none where none of them prints the dat
abbrev pub IsFoundLast : BoundValue → (to dat : ℕ) → Option LastPrint → Type 0
IsFoundLast b to dat (Some p) = IsLastPrint b to dat p
IsFoundLast b to dat None = PrintNone b dat 0 to
