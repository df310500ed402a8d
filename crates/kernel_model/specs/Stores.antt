-- A store of named cells, and the cells that arguments name in it.
use Rattle.std.specs.Prelude.{ℕ, ℤ, pos, ◌+◌, List, [], slice_index_or, slice_set}

-- arrays of cells; a cell is named by an array and a number in it
abbrev pub Store : Type 0
Store = List (List ℤ)

-- the value of a cell
abbrev pub cell : Store → ℕ → ℕ → ℤ
cell s x k = slice_index_or (slice_index_or s x []) k (pos 0)

-- the store with that value in the cell
abbrev pub with_cell : Store → ℕ → ℕ → ℤ → Store
with_cell s x k v = slice_set s x (slice_set (slice_index_or s x []) k v)

-- the cells that an argument names: count of them, from a place in an array
pub record Target : Type 0 where
  pub array : ℕ
  pub from : ℕ
  pub count : ℕ

-- what stands for an argument that is not there
abbrev pub no_target : Target
no_target = record { array = 0; from = 0; count = 0 }

-- the target of an argument
abbrev pub target_at : List Target → ℕ → Target
target_at ts a = slice_index_or ts a no_target

-- the value of an argument's component
abbrev pub read_arg : List Target → Store → ℕ → ℕ → ℤ
read_arg ts s a i = cell s (target_at ts a).array ((target_at ts a).from + i)

-- the store with that value in an argument's component
abbrev pub store_arg : List Target → Store → ℕ → ℕ → ℤ → Store
store_arg ts s a i v = with_cell s (target_at ts a).array ((target_at ts a).from + i) v
