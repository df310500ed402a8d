-- Local numbers by original number.
use Rattle.std.specs.Prelude.{◌≡◌, ◌≢◌, ℕ, ◌^◌, ◌<◌, ◌≤◌, List, length, slice_index, Contains}
use Rattle.local_mesh.specs.declared.lookup.Lookup.{Lookup}
use Rattle.local_mesh.specs.declared.lookup.Lookup.TheVariants.{Rising, Sorted}

-- the numbers from place a to below place b stand in increasing order
abbrev pub RisesWithin : List ℕ → ℕ → ℕ → Type 0
RisesWithin xs a b = (i j : ℕ) → a ≤ i → i ≤ j → j < b → slice_index xs i ≤ slice_index xs j

-- the numbers stand in increasing order
abbrev pub Rises : List ℕ → Type 0
Rises xs = (i j : ℕ) → i ≤ j → j < length xs → slice_index xs i ≤ slice_index xs j

-- different originals, in three stretches that rise: the first ends at a, the second at b
pub record AreStretches (original : List ℕ) (a b : ℕ) : Type 0 where
  pub few : length original < 2 ^ 32
  pub first : a ≤ b
  pub second : b ≤ length original
  pub own : RisesWithin original 0 a
  pub exec : RisesWithin original a b
  pub nonexec : RisesWithin original b (length original)
  pub apart : (j k : ℕ) → j < k → k < length original → slice_index original j ≢ slice_index original k

-- different originals, all in increasing order (`copies`), and where each stands (`locals`)
pub record IsLookup (original copies locals : List ℕ) : Type 0 where
  pub same : length locals ≡ length copies
  pub within : (k : ℕ) → k < length copies → slice_index locals k < length original
  pub stands : (k : ℕ) → k < length copies → slice_index original (slice_index locals k) ≡ slice_index copies k
  pub all : (k : ℕ) → k < length original → Contains copies (slice_index original k)
  pub rising : Rises copies
  pub apart : (j k : ℕ) → j < k → k < length original → slice_index original j ≢ slice_index original k

-- by this look-up each of the originals is found
abbrev pub Finds : List ℕ → Lookup → Type 0
Finds original (Rising a b) = AreStretches original a b
Finds original (Sorted copies locals) = IsLookup original copies.items locals.items
