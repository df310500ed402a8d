-- Classes of equal keys.
use Rattle.std.specs.Prelude.{◌≡◌, ◌+◌, ◌*◌, ◌^◌, ◌<◌, ◌≤◌, ◌↔◌, ℕ, List, length, slice_index}

-- the place where the numbers below a key end in a list in order
pub record IsPoint (sorted : List ℕ) (key r : ℕ) : Type 0 where
  pub within : r ≤ length sorted
  pub below : (k : ℕ) → k < r → slice_index sorted k < key
  pub above : (k : ℕ) → r ≤ k → k < length sorted → key ≤ slice_index sorted k

-- equal keys have one class, and others have others; classes are below the number of keys
pub record AreClasses (keys of : List ℕ) : Type 0 where
  pub size : length of ≡ length keys
  pub small : (i : ℕ) → i < length keys → slice_index of i < length keys
  pub same : (i j : ℕ) → i < length keys → j < length keys
      → (slice_index of i ≡ slice_index of j) ↔ (slice_index keys i ≡ slice_index keys j)

-- the first `upto` numbers of two rows are the same
abbrev pub IsSameRow : List ℕ → ℕ → ℕ → ℕ → ℕ → Type 0
IsSameRow rows width upto i j = (k : ℕ) → k < upto → slice_index rows (i * width + k) ≡ slice_index rows (j * width + k)

-- Rows that are the same up to a column have one class, and others have others.
pub record AreRowClassesUpTo (rows : List ℕ) (count width upto : ℕ) (of : List ℕ) : Type 0 where
  pub size : length of ≡ count
  pub small : (i : ℕ) → i < count → slice_index of i < count
  pub same : (i j : ℕ) → i < count → j < count → (slice_index of i ≡ slice_index of j) ↔ IsSameRow rows width upto i j

-- rows that are the same have one class, and others have others
abbrev pub AreRowClasses : List ℕ → ℕ → ℕ → List ℕ → Type 0
AreRowClasses rows count width of = AreRowClassesUpTo rows count width width of

-- each key is a row's class in front of its number in a column
pub record AreJoined (of : List ℕ) (column width : ℕ) (rows keys : List ℕ) : Type 0 where
  pub size : length keys ≡ length of
  pub each : (i : ℕ) → i < length of → slice_index keys i ≡ slice_index of i * 2 ^ 32 + slice_index rows (i * width + column)
