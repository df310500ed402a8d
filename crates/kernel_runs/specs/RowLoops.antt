-- Loops whose elements run in rows: where each component of an argument stands, in a row's frame and in the memory.
use Rattle.std.specs.Prelude.{◌≡◌, ◌≢◌, ◌<◌, ◌≤◌, ◌+◌, ◌*◌, ◌⊎◌, ℕ, List, length, map, get_or, slice_index, true, Option, None}
use Rattle.op_num.specs.declared.reductions.access.Access.TheVariants as code
use Rattle.op_num.specs.Access.{Access, OpRead, OpWrite, OpRw, OpReduce, access_of}
use Rattle.kernel_model.specs.declared.types.views.frame.Place.{Place}
use Rattle.kernel_model.specs.Framed.{target_of}
use Rattle.kernel_model.specs.Meaning.{target_at}
use Rattle.kernel_model.specs.Obeys.{Mode, KernelObeys}
use Rattle.kernel_model.specs.Independence.{access, dim}
use Rattle.rank_state.specs.declared.scalars.Scalar.{Scalar}
use Rattle.rank_state.specs.declared.scalars.Scalar.TheVariants.{Value, Amount}
use Rattle.rank_state.specs.Windows.{operation}
use Rattle.kernel_runs.specs.declared.row_batches.ways.LocalVia.{LocalVia}
use Rattle.kernel_runs.specs.declared.row_batches.rows.RowColumn.{RowColumn}
use Rattle.kernel_runs.specs.declared.row_batches.rows.RowLoop.{RowLoop}
use Rattle.kernel_runs.specs.declared.row_batches.rows.RowRoom.{RowRoom}
use Rattle.kernel_runs.specs.Meeting.{pair_at}
use Rattle.kernel_runs.specs.Ways.{HasTarget, local_in}

-- enough room for so many ways, columns and slots
pub record HasRowRoom (ways columns slots : ℕ) (room : RowRoom) : Type 0 where
  pub numbers_fit : ways ≤ length room.numbers.items
  pub frame_fits : columns ≤ length room.frame.items
  pub scratch_fits : slots ≤ length room.scratch.items

-- a column's access lets an argument that shares it do what it may
abbrev pub Allows : Access → Access → Type 0
Allows OpRw (OpReduce r) = ⊥
Allows OpRw own = Unit {0}
Allows shared own = shared ≡ own

-- a scalar is one that an argument reads, or one into which it reduces
abbrev pub AllowsScalar : Scalar → Access → Type 0
AllowsScalar (Value at) own = own ≡ OpRead
AllowsScalar (Amount at slot how) own = own ≡ OpReduce (operation how)

-- what stands for a column that is not there
abbrev pub no_column : RowColumn
no_column = record { way = 0; cell = 0; dim = 0; access = code.Read }

-- what stands for a scalar that is not there
abbrev pub no_scalar : Scalar
no_scalar = Value 0

-- a column by its number
abbrev pub column_in : List RowColumn → ℕ → RowColumn
column_in columns c = get_or columns c no_column

-- a scalar by its number
abbrev pub scalar_in : List Scalar → ℕ → Scalar
scalar_in scalars j = get_or scalars j no_scalar

-- amounts with one slot are merged by one operation
abbrev pub MergeAlike : Scalar → Scalar → Type 0
MergeAlike (Value at) y = Unit {0}
MergeAlike (Amount at slot how) (Value at') = Unit {0}
MergeAlike (Amount at slot how) (Amount at' slot' how') = slot ≡ slot' → how ≡ how'

module _ (y : RowLoop) where
  -- a column of the loop
  abbrev pub column_at : ℕ → RowColumn
  column_at c = column_in y.columns.now c

  -- a scalar of the loop
  abbrev pub scalar_at : ℕ → Scalar
  scalar_at j = scalar_in y.scalars.now j

  -- what the arguments on a column may do
  abbrev pub column_access : ℕ → Access
  column_access c = access_of (column_at c).access

  -- the way in which the arguments on a column reach elements
  abbrev pub way_of : ℕ → Option LocalVia
  way_of c = get_or y.ways.now (column_at c).way None

  -- the cell that a column has in the row of a place
  abbrev pub column_cell : (x c : ℕ) → ℕ
  column_cell x c = (column_at c).cell + local_in (way_of c) x * (column_at c).dim

  -- how many columns a frame has
  abbrev pub width : ℕ
  width = length y.columns.now + length y.scalars.now

  -- these ways were found not to lead from one place to one element
  abbrev pub AreTested : ℕ → ℕ → Type 0
  AreTested v w =
      (i : ℕ) × (i < length y.pairs.now) × ((pair_at y.pairs.now i ≡ (v, w)) ⊎ (pair_at y.pairs.now i ≡ (w, v)))

  -- the ways lead somewhere from a place, where a memory of so many cells has what the columns stand for
  pub record LeadsFrom (cells x : ℕ) : Type 0 where
    pub targets : (w : ℕ) → w < length y.ways.now → HasTarget (get_or y.ways.now w None) x
    pub inside : (c : ℕ) → c < length y.columns.now → column_cell x c < cells

  -- columns and pairs name ways that are there
  pub record IsWhole : Type 0 where
    pub ways : (c : ℕ) → c < length y.columns.now → (column_at c).way < length y.ways.now
    pub firsts : (i : ℕ) → i < length y.pairs.now → (pair_at y.pairs.now i).0 < length y.ways.now
    pub seconds : (i : ℕ) → i < length y.pairs.now → (pair_at y.pairs.now i).1 < length y.ways.now

  -- a component of an argument on a dat stands in the column c of the frame, and for the place x in the cell k of the memory
  pub record OnDat (x : ℕ) (own : Access) (c k : ℕ) : Type 0 where
    pub few : c < length y.columns.now
    pub cell : k ≡ column_cell x c
    pub allows : Allows (column_access c) own

  -- a component of an argument on a variable stands behind the columns, and behind so many cells of the memory
  pub record OnVariable (cells : ℕ) (own : Access) (c k : ℕ) : Type 0 where
    pub number : ℕ
    pub few : number < length y.scalars.now
    pub column : c ≡ length y.columns.now + number
    pub cell : k ≡ cells + number
    pub allows : AllowsScalar (scalar_at number) own

  -- the same component of one dat, reached in two ways that were found not to meet in a row; both reduce into it alike
  pub record ReduceApart (c d : ℕ) : Type 0 where
    pub cell : (column_at c).cell ≡ (column_at d).cell
    pub dim : (column_at c).dim ≡ (column_at d).dim
    pub access : column_access c ≡ column_access d
    pub reduces : (column_access c ≢ OpRead) × (column_access c ≢ OpWrite) × (column_access c ≢ OpRw)
    pub tested : AreTested (column_at c).way (column_at d).way

  module _ (cells : ℕ) (modes : List Mode) (stand : ℕ → List Place) (batch : List ℕ) where
    -- the column in which a component of an argument stands
    abbrev pub in_frame : (a i : ℕ) → ℕ
    in_frame a i = (target_at (map target_of y.places.now) a).from + i

    -- the cell of the memory in which a component of an argument stands for a place
    abbrev pub in_memory : (x a i : ℕ) → ℕ
    in_memory x a i = (target_at (map target_of (stand x)) a).from + i

    -- an argument that may modify its component stands in the column
    abbrev pub IsModified : ℕ → Type 0
    IsModified c = (a : ℕ) × (i : ℕ) × (i < dim modes a) × (access modes a ≢ OpRead) × (in_frame a i ≡ c)

    module _ (rows : ℕ) where
      -- two columns never have one cell of the memory, whatever the rows
      abbrev pub NeverMeet : ℕ → ℕ → Type 0
      NeverMeet c d =
          (i l : ℕ) → i < rows → l < rows → column_cell (slice_index batch i) c ≢ column_cell (slice_index batch l) d

      -- `stand x` has the places of the kernel's arguments in the memory for the place x of the rank, and the loop's kernel may run
      -- for the first places of a batch in rows
      pub record RunsInRows : Type 0 where
        pub obeys : KernelObeys y.code.now.kernel.now modes
        pub frame_counts : (a : ℕ) → (target_at (map target_of y.places.now) a).count ≡ dim modes a
        pub counts : (l a : ℕ) → l < rows → (target_at (map target_of (stand (slice_index batch l))) a).count ≡ dim modes a
        -- a component stands in a column or in a scalar, which lets its argument do what it may
        pub stands : (l a i : ℕ)
            → l < rows → i < dim modes a
            → OnDat (slice_index batch l) (access modes a) (in_frame a i) (in_memory (slice_index batch l) a i)
            ⊎ OnVariable cells (access modes a) (in_frame a i) (in_memory (slice_index batch l) a i)
        -- columns and scalars that may be modified are those of an argument that may modify them
        pub columns : (c : ℕ) → c < length y.columns.now → column_access c ≢ OpRead → IsModified c
        pub amounts : (j : ℕ)
            → j < length y.scalars.now → (AllowsScalar (scalar_at j) OpRead → ⊥) → IsModified (length y.columns.now + j)
        pub dims : (c : ℕ) → c < length y.columns.now → 0 < (column_at c).dim
        -- a column that is stored to is reached by no map, and the places of the batch are tested
        pub stored : (c : ℕ)
            → c < length y.columns.now
            → (column_access c ≡ OpWrite) ⊎ (column_access c ≡ OpRw)
            → (way_of c ≡ None) × (y.differ ≡ true)
        -- a column that may be modified shares cells with none, or with those that reduce into it in another way
        pub apart : (c d : ℕ)
            → c < length y.columns.now → d < length y.columns.now → c ≢ d → column_access c ≢ OpRead
            → NeverMeet c d ⊎ ReduceApart c d
        pub alike : (i j : ℕ) → i < length y.scalars.now → j < length y.scalars.now → MergeAlike (scalar_at i) (scalar_at j)
