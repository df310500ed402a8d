-- Keys that stand twice: each has a mate.
use Rattle.std.specs.Prelude.{◌≡◌, ◌<◌, ◌⊎◌, ℕ, List, length, slice_index, get_or, Option, Some, None}
use Rattle.gmsh_mesh.specs.declared.equal_keys.pairing.MateRefusal.{MateRefusal}
use Rattle.gmsh_mesh.specs.declared.equal_keys.pairing.MateRefusal.TheVariants.{Third, OutOfMemory}

-- Of the first n keys the one at place i and the one at place m are equal, and no other is equal to them. Where i is m there is one.
pub record IsMate (keys : List ℕ) (n i m : ℕ) : Type 0 where
  pub within : m < n
  pub same : slice_index keys m ≡ slice_index keys i
  pub others : (j : ℕ) → j < n → slice_index keys j ≡ slice_index keys i → (j ≡ i) ⊎ (j ≡ m)

-- each key's mate
pub record AreMates (keys of : List ℕ) : Type 0 where
  pub size : length of ≡ length keys
  pub mates : (i : ℕ) → i < length keys → IsMate keys (length keys) i (slice_index of i)

-- two keys in front of the one at this place are equal to it
pub record IsThird (keys : List ℕ) (place : ℕ) : Type 0 where
  pub first : ℕ
  pub second : ℕ
  pub apart : first < second
  pub before : second < place
  pub within : place < length keys
  pub first_same : slice_index keys first ≡ slice_index keys place
  pub second_same : slice_index keys second ≡ slice_index keys place

-- the first such place
pub record IsFirstThird (keys : List ℕ) (place : ℕ) : Type 0 where
  pub third : IsThird keys place
  pub none_before : (k : ℕ) → k < place → IsThird keys k → ⊥

-- a place of the first n keys at which this key stands; none where it stands nowhere
abbrev pub IsSeen : List ℕ → ℕ → ℕ → Option ℕ → Type 0
IsSeen keys n key None = (i : ℕ) → i < n → slice_index keys i ≡ key → ⊥
IsSeen keys n key (Some j) = (j < n) × (slice_index keys j ≡ key)

-- what is known of the first n keys: for each key a place, and for each place its mate
pub record AreMatesSoFar (keys : List ℕ) (n : ℕ) (seen : List (Option ℕ)) (of : List ℕ) : Type 0 where
  pub room : length seen ≡ length keys
  pub size : length of ≡ length keys
  pub places : (key : ℕ) → key < length keys → IsSeen keys n key (get_or seen key None)
  pub mates : (i : ℕ) → i < n → IsMate keys n i (slice_index of i)

-- memory ran out, or the first third is told
abbrev pub IsRefused : List ℕ → MateRefusal → Type 0
IsRefused keys (Third place) = IsFirstThird keys place
IsRefused keys OutOfMemory = Unit {0}
