-- The tables of a loop that runs in rows: its ways, the columns of a frame, and the pairs of ways that may meet.
use Rattle.std.specs.Prelude.{◌≡◌, ◌≢◌, ◌<◌, ◌≤◌, ◌+◌, ◌-◌, ◌⊎◌, ℕ, true, List, length, get_or, slice_index, Option, Some, None}
use Rattle.op_num.specs.declared.reductions.access.Access.{Access}
use Rattle.op_num.specs.Access.{OpRead, OpWrite, OpRw, access_of}
use Rattle.op_num.specs.Access as model
use Rattle.kernel_model.specs.declared.types.views.frame.Place.{Place}
use Rattle.kernel_model.specs.Framed.{no_place}
use Rattle.bound_program.specs.declared.sites.Arg.{Arg}
use Rattle.run_model.specs.Arguments.{access_by}
use Rattle.kernel_runs.specs.declared.row_batches.ways.LocalVia.{LocalVia}
use Rattle.kernel_runs.specs.declared.row_batches.rows.RowColumn.{RowColumn}
use Rattle.kernel_runs.specs.RowLoops.{Allows, no_column}
use Rattle.kernel_runs.specs.declared.row_batches.batch_tables.args.LocalArg.{LocalArg}
use Rattle.kernel_runs.specs.Alike.{arg_in, same_way, same_column, may_meet, IsFirst}

-- the way of an argument; one on a variable has none
abbrev pub via_of : Option LocalArg → Option LocalVia
via_of None = None
via_of (Some y) = y.via

-- where an argument stands, or no place where there is no such argument
abbrev pub place_at : List Place → ℕ → Place
place_at places a = get_or places a no_place

-- a pair of numbers that is not there
abbrev pub no_pair : ℕ × ℕ
no_pair = (0, 0)

-- the access lets do what either of two others lets, and modifies only if one of them does
pub record Joins (some other joined : Access) : Type 0 where
  pub first : (own : model.Access) → Allows (access_of some) own → Allows (access_of joined) own
  pub second : Allows (access_of joined) (access_of other)
  pub modified : access_of joined ≢ OpRead → (access_of some ≢ OpRead) ⊎ (access_of other ≢ OpRead)

module _ (args : List Arg) where
  -- The access of the column of argument a lets each argument that shares it do what it may, and one of them may modify it where the column
  -- may be; of the first n arguments.
  pub record IsSharedBy (a : ℕ) (shared : Access) (n : ℕ) : Type 0 where
    pub own : Allows (access_of shared) (access_by (arg_in args a))
    pub allows : (b : ℕ)
        → b < n → same_column (arg_in args b) (arg_in args a) ≡ true
        → Allows (access_of shared) (access_by (arg_in args b))
    pub modified : access_of shared ≢ OpRead
        → (b : ℕ) × (b < length args) × (same_column (arg_in args b) (arg_in args a) ≡ true) × (access_by (arg_in args b) ≢ OpRead)

  -- the access of the column of argument a is one for all arguments that share it
  abbrev pub IsShared : (a : ℕ) (shared : Access) → Type 0
  IsShared a shared = IsSharedBy a shared (length args)

  -- Pairs of the numbers of ways that may meet; of the first n arguments, and of the first m with the argument n.
  pub record ArePairs (numbers : List ℕ) (pairs : List (ℕ × ℕ)) (n m count : ℕ) : Type 0 where
    pub few : count ≤ length pairs
    pub whole : (i : ℕ) → i < count
        → (a : ℕ) × (b : ℕ) × (a < length args) × (b < length args)
        × (get_or pairs i no_pair ≡ (slice_index numbers a, slice_index numbers b))
    pub all : (a b : ℕ)
        → (a < n) ⊎ ((a ≡ n) × (b < m))
        → b < a → may_meet (arg_in args a) (arg_in args b) ≡ true
        → (i : ℕ) × (i < count) × (get_or pairs i no_pair ≡ (slice_index numbers a, slice_index numbers b))

module _ (args : List Arg) (locals : List (Option LocalArg)) where
  -- an argument as a rank reaches it; none on a variable
  abbrev pub local_at : ℕ → Option LocalArg
  local_at a = get_or locals a None

  -- Each argument's way has the number of the first argument with this way; of the first n arguments.
  pub record AreWays (numbers : List ℕ) (ways : List (Option LocalVia)) (n : ℕ) : Type 0 where
    pub numbered : (a : ℕ) → a < n → IsFirst same_way args a (slice_index numbers a)
    pub first : (a : ℕ) → a < n → slice_index numbers a ≡ a → get_or ways a None ≡ via_of (local_at a)
    pub other : (a : ℕ) → a < n → slice_index numbers a ≢ a → get_or ways a None ≡ None

  -- the argument is on a dat, and the first that reaches it in this way
  pub record Opens (a : ℕ) (y : LocalArg) : Type 0 where
    pub there : a < length args
    pub local : local_at a ≡ Some y
    pub first : IsFirst same_column args a a

  -- the columns from one on are those of the argument's components
  pub record HasColumns (numbers : List ℕ) (columns : List RowColumn) (a : ℕ) (y : LocalArg) (from count : ℕ) : Type 0 where
    pub inside : from + y.dim ≤ count
    pub shared : Access
    pub is_shared : IsShared args a shared
    pub are : (j : ℕ)
        → j < y.dim
        → get_or columns (from + j) no_column
        ≡ record { way = slice_index numbers a; cell = y.base + j; dim = y.dim; access = shared }

  -- Arguments on dats stand in columns, those that reach one dat in one way in the same ones; of the first n arguments.
  pub record AreColumns (numbers : List ℕ) (columns : List RowColumn) (places : List Place) (n count : ℕ) : Type 0 where
    pub few : count ≤ length columns
    pub opened : (a : ℕ) (y : LocalArg) → a < n → Opens a y → HasColumns numbers columns a y (place_at places a).from count
    pub stands : (a b : ℕ) (y : LocalArg)
        → a < n → local_at a ≡ Some y → IsFirst same_column args a b → (place_at places a).from ≡ (place_at places b).from
    pub counts : (a : ℕ) (y : LocalArg) → a < n → local_at a ≡ Some y → (place_at places a).count ≡ y.dim
    pub each : (c : ℕ)
        → c < count
        → (a : ℕ) × (y : LocalArg) × (j : ℕ) × (a < n) × Opens a y × (j < y.dim) × (c ≡ (place_at places a).from + j)

-- an argument on a variable stands behind so many columns as it does behind so many cells; one on a dat stays where it stood
abbrev pub scalar_place : (columns cells : ℕ) → Option LocalArg → (stand stood : Place) → Place
scalar_place columns cells None stand stood = record { from = columns + (stand.from - cells); count = stand.count }
scalar_place columns cells (Some y) stand stood = stood

-- a column is stored to
abbrev pub IsStored : RowColumn → Type 0
IsStored c = (access_of c.access ≡ OpWrite) ⊎ (access_of c.access ≡ OpRw)
