-- When there is no piece, and which.
use Rattle.std.specs.Prelude.{◌≡◌, ℕ, ◌+◌, ◌<◌, ◌≤◌, List}
use Rattle.std.specs.List.{count_by}
use Rattle.mesh_decl.specs.Mesh.{set_size, dat_set}
use Rattle.bound_program.specs.Values.{BoundValue}
use Rattle.mesh_draw.specs.Lines.{lines_in}
use Rattle.mesh_draw.specs.Pieces.{header, is_print, lines_before, IsPrint, IsAt}
use Rattle.mesh_draw.specs.declared.output_pieces.refusals.PieceRefusal.{PieceRefusal}
use Rattle.mesh_draw.specs.declared.output_pieces.refusals.PieceRefusal.TheVariants.{NoPrint, NoHeader, FewRows, OutOfMemory}

-- the number of a refusal
abbrev pub number_of : PieceRefusal → ℕ
number_of NoPrint = 1
number_of (NoHeader line) = 2
number_of (FewRows line) = 3
number_of OutOfMemory = 0

-- the dat is printed, and its first line isn't where the trace says; it was awaited on this line
pub record LacksHeader (b : BoundValue) (file : List ℕ) (earlier : ℕ) (output : List ℕ) (line : ℕ) : Type 0 where
  pub item : ℕ
  pub dat : ℕ
  pub is : IsPrint b file earlier item dat
  pub none : IsAt b item output (header file b.mesh dat) → ⊥
  pub awaited : line ≡ lines_before b item + lines_in (header file b.mesh dat)

-- the dat's first line is there, and fewer rows are behind it than its set has elements; the output has no line of this number
pub record LacksRows (b : BoundValue) (file : List ℕ) (earlier : ℕ) (output : List ℕ) (line : ℕ) : Type 0 where
  pub item : ℕ
  pub dat : ℕ
  pub is : IsPrint b file earlier item dat
  pub at : IsAt b item output (header file b.mesh dat)
  pub few : lines_in at.rest < set_size b.mesh (dat_set b.mesh dat)
  pub awaited : line ≡ lines_in output + 1

-- each refusal has its cause; want of memory alone is free
abbrev pub IsRefused : BoundValue → (file : List ℕ) (earlier : ℕ) (output : List ℕ) → PieceRefusal → Type 0
IsRefused b file earlier output NoPrint = count_by (is_print file) b.trace ≤ earlier
IsRefused b file earlier output (NoHeader line) = LacksHeader b file earlier output line
IsRefused b file earlier output (FewRows line) = LacksRows b file earlier output line
IsRefused b file earlier output OutOfMemory = Unit {0}
