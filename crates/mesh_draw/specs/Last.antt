-- The lines that a program prints of the elements of a dat where it prints that dat last.
use Rattle.std.specs.Prelude.{◌≡◌, ℕ, ◌+◌, ◌<◌, ◌≤◌, Bool, false, List, ◌++◌, length, nat_eq, Some, slice_get}
use Rattle.mesh_decl.specs.Mesh.{set_size, dat_set}
use Rattle.bound_program.specs.Values.{BoundValue, ItemValue, Host, Print}
use Rattle.mesh_draw.specs.Lines.{lines_in, AreLines}
use Rattle.mesh_draw.specs.Pieces.{header, lines_before, IsAt}
use Rattle.mesh_draw.specs.declared.output_pieces.refusals.PieceRefusal.{PieceRefusal}
use Rattle.mesh_draw.specs.declared.output_pieces.refusals.PieceRefusal.TheVariants.{NoPrint, NoHeader, FewRows, OutOfMemory}

-- the item prints this dat
abbrev pub prints_dat : ℕ → ItemValue → Bool
prints_dat dat (Host (Print d file)) = nat_eq d dat
prints_dat dat x = false

module _ (b : BoundValue) where
  -- none of the items from one on and before another prints the dat
  abbrev pub PrintNone : (dat from to : ℕ) → Type 0
  PrintNone dat from to = (j : ℕ) (x : ItemValue) → from ≤ j → j < to → slice_get b.trace j ≡ Some x → prints_dat dat x ≡ false

  -- of the items before one, this is the last that prints the dat, with this text as its file
  pub record IsLastBefore (to dat item : ℕ) (file : List ℕ) : Type 0 where
    pub prints : slice_get b.trace item ≡ Some (Host (Print dat file))
    pub last : PrintNone dat (item + 1) to

  -- it is the last of all that prints the dat
  abbrev pub IsLast : (dat item : ℕ) → (file : List ℕ) → Type 0
  IsLast dat item file = IsLastBefore (length b.trace) dat item file

  -- no item prints it
  abbrev pub IsUnprinted : (dat : ℕ) → Type 0
  IsUnprinted dat = PrintNone dat 0 (length b.trace)

  -- a line for each element of the dat, behind its first line, where the trace says that it stands; so many lines stand before
  pub record AreLastRows (dat : ℕ) (output rows : List ℕ) (before : ℕ) : Type 0 where
    pub item : ℕ
    pub file : List ℕ
    pub is : IsLast dat item file
    pub at : IsAt b item output (header file b.mesh dat ++ rows)
    pub lines : AreLines (set_size b.mesh (dat_set b.mesh dat)) rows
    pub count : before ≡ lines_before b item + lines_in (header file b.mesh dat)

  -- the dat is printed, and its first line isn't where the trace says; it was awaited on this line
  pub record LacksLastHeader (dat : ℕ) (output : List ℕ) (line : ℕ) : Type 0 where
    pub item : ℕ
    pub file : List ℕ
    pub is : IsLast dat item file
    pub none : IsAt b item output (header file b.mesh dat) → ⊥
    pub awaited : line ≡ lines_before b item + lines_in (header file b.mesh dat)

  -- its first line is there, and fewer lines are behind it than its set has elements; the output has no line of this number
  pub record LacksLastRows (dat : ℕ) (output : List ℕ) (line : ℕ) : Type 0 where
    pub item : ℕ
    pub file : List ℕ
    pub is : IsLast dat item file
    pub at : IsAt b item output (header file b.mesh dat)
    pub few : lines_in at.rest < set_size b.mesh (dat_set b.mesh dat)
    pub awaited : line ≡ lines_in output + 1

  -- why there are no such lines; want of memory alone is free
  abbrev pub HasNoLastRows : (dat : ℕ) (output : List ℕ) → PieceRefusal → Type 0
  HasNoLastRows dat output NoPrint = IsUnprinted dat
  HasNoLastRows dat output (NoHeader line) = LacksLastHeader dat output line
  HasNoLastRows dat output (FewRows line) = LacksLastRows dat output line
  HasNoLastRows dat output OutOfMemory = Unit {0}
