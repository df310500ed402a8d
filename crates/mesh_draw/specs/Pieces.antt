-- Where a printed dat stands in the output of a program: the trace says how many lines the items before it print, and how many its own
-- rows are. What a line says is asked of the dat's first line alone.
use Rattle.std.specs.Prelude.{◌≡◌, ℕ, ◌+◌, Bool, false, List, ◌++◌, sum_by, take, Some, slice_get}
use Rattle.std.specs.List.{count_by, flat_map}
use Rattle.std.specs.Str.{bytes_eq}
use Rattle.mesh_decl.specs.Mesh.{MeshValue, set_size, dat_set}
use Rattle.mesh_decl.specs.Printed.{dat_header}
use Rattle.bound_program.specs.Values.{BoundValue, ItemValue, Host, Line, Print}
use Rattle.mesh_draw.specs.Lines.{lines_in, AreLines}

-- the bytes of the first line of a printed dat, `FILE: DAT SET SIZE DIM` and LF
unfoldable pub header : List ℕ → MeshValue → ℕ → List ℕ
header file g d = flat_map (λ part. part) (dat_header file g d)

-- how many LFs an item prints: those of its text, whatever its values are; those of a dat's first line, and one for each element
abbrev pub item_lines : MeshValue → ItemValue → ℕ
item_lines g (Host (Line text es)) = lines_in text
item_lines g (Host (Print d file)) = lines_in (header file g d) + set_size g (dat_set g d)
item_lines g x = 0

-- the item prints a dat with this text as its file
abbrev pub is_print : List ℕ → ItemValue → Bool
is_print file (Host (Print d other)) = bytes_eq other file
is_print file x = false

module _ (b : BoundValue) where
  -- how many LFs the items before this one print
  abbrev pub lines_before : ℕ → ℕ
  lines_before item = sum_by (item_lines b.mesh) (take item b.trace)

  -- this item prints that dat with this text as its file, and so many items before it print one with that text
  pub record IsPrint (file : List ℕ) (earlier item dat : ℕ) : Type 0 where
    pub prints : slice_get b.trace item ≡ Some (Host (Print dat file))
    pub passed : count_by (is_print file) (take item b.trace) ≡ earlier

  -- There are such bytes at the place in the output that the trace says: behind as many LFs as the items before print.
  pub record IsAt (item : ℕ) (output piece : List ℕ) : Type 0 where
    pub front : List ℕ
    pub rest : List ℕ
    pub cut : output ≡ front ++ piece ++ rest
    pub lines : lines_in front ≡ lines_before item

  -- The piece is a printed dat: its first line, and a line for each element.
  pub record IsDat (file : List ℕ) (dat : ℕ) (piece : List ℕ) : Type 0 where
    pub rows : List ℕ
    pub whole : piece ≡ header file b.mesh dat ++ rows
    pub lines : AreLines (set_size b.mesh (dat_set b.mesh dat)) rows

  -- The piece is what the dat with this text as its file prints behind so many with that text, cut out of the output where the trace says.
  pub record IsPiece (file : List ℕ) (earlier : ℕ) (output piece : List ℕ) : Type 0 where
    pub item : ℕ
    pub dat : ℕ
    pub is : IsPrint file earlier item dat
    pub at : IsAt item output piece
    pub printed : IsDat file dat piece
