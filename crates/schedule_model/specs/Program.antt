-- A bound program: its items, and its kernels and host statements as functions on stores. Nothing here knows of ranks.
use Rattle.std.specs.Prelude.{ℕ, ℤ, Bool, true, false, List}
use Rattle.schedule_model.specs.Cells.{VarCell, Store}
use Rattle.schedule_model.specs.Effects.{Ran}

-- what an item is
pub data Kind : Type 0 where
  Free : Kind  -- a loop whose elements may run in any order
  Reduce : Kind  -- merges the partials of the Free item before it into their variables
  Ordered : Kind  -- a loop whose elements run one after another
  Host : Kind  -- a statement of the host program

-- the item's elements may overlap
abbrev pub is_free : Kind → Bool
is_free Free = true
is_free _ = false

-- the item runs a kernel for each element
abbrev pub is_loop : Kind → Bool
is_loop Free = true
is_loop Ordered = true
is_loop _ = false

-- what a host statement does: its fault, or the variables after it and the bytes that it prints
pub data Hosted (F : Type 0) : Type 0 where
  Halts : F → Hosted F
  Goes : (VarCell → ℤ) → List ℕ → Hosted F

-- F is the type of faults. Items, sites, sets, dats and elements are numbers.
pub record Program (F : Type 0) : Type 0 where
  pub items : ℕ
  pub kind : ℕ → Kind  -- item
  pub site : ℕ → ℕ  -- item: the loop of the source; a Reduce has its loop's
  pub set : ℕ → ℕ  -- item: the set that its loop goes over
  pub size : ℕ → ℕ  -- set
  pub set_of : ℕ → ℕ  -- dat
  pub start : Store  -- the mesh's values, and those that the variables begin with
  pub run : ℕ → ℕ → Store → Ran F  -- item, element: its kernel's run on a store
  pub host : ℕ → Store → Hosted F  -- item

-- how many elements the item's loop has
abbrev pub elements : {F : Type 0} → Program F → ℕ → ℕ
elements p k = p.size (p.set k)
