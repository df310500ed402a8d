-- Places of tags.
use Rattle.std.specs.Prelude.{◌≡◌, ◌+◌, ◌<◌, ℕ, List, length, slice_index, get_or, Option, None}
use Rattle.gmsh_mesh.specs.Mates.{IsSeen}
use Rattle.gmsh_mesh.specs.declared.tag_places.refusal.TagRefusal.{TagRefusal}
use Rattle.gmsh_mesh.specs.declared.tag_places.refusal.TagRefusal.TheVariants.{Doubled, Unknown, OutOfMemory}

-- a tag in front of the one at this place is equal to it
pub record IsDoubled (tags : List ℕ) (place : ℕ) : Type 0 where
  pub first : ℕ
  pub before : first < place
  pub within : place < length tags
  pub same : slice_index tags first ≡ slice_index tags place

-- the first such place
pub record IsFirstDoubled (tags : List ℕ) (place : ℕ) : Type 0 where
  pub doubled : IsDoubled tags place
  pub none_before : (k : ℕ) → k < place → IsDoubled tags k → ⊥

-- no tag stands twice
abbrev pub AreDistinct : List ℕ → Type 0
AreDistinct tags = (k : ℕ) → IsDoubled tags k → ⊥

-- the tag at this place is the key
abbrev pub IsPlace : List ℕ → ℕ → ℕ → Type 0
IsPlace tags key place = (place < length tags) × (slice_index tags place ≡ key)

-- the key is no tag
abbrev pub IsUnknown : List ℕ → ℕ → Type 0
IsUnknown tags key = (i : ℕ) → i < length tags → slice_index tags i ≡ key → ⊥

-- each key's place, where no tag stands twice: so it has no other
pub record ArePlaces (tags keys of : List ℕ) : Type 0 where
  pub distinct : AreDistinct tags
  pub size : length of ≡ length keys
  pub each : (k : ℕ) → k < length keys → IsPlace tags (slice_index keys k) (slice_index of k)

-- the first key that is no tag, where no tag stands twice
pub record IsFirstUnknown (tags keys : List ℕ) (place : ℕ) : Type 0 where
  pub distinct : AreDistinct tags
  pub within : place < length keys
  pub unknown : IsUnknown tags (slice_index keys place)
  pub known_before : (k : ℕ) → k < place → IsUnknown tags (slice_index keys k) → ⊥

-- memory ran out; or the first tag that stands twice, or else the first key that is none, is told
abbrev pub IsRefused : List ℕ → List ℕ → TagRefusal → Type 0
IsRefused tags keys (Doubled place) = IsFirstDoubled tags place
IsRefused tags keys (Unknown place) = IsFirstUnknown tags keys place
IsRefused tags keys OutOfMemory = Unit {0}

-- For the first n classes: for each class a place where it stands, and none stands twice.
pub record AreHolders (of : List ℕ) (n : ℕ) (holders : List (Option ℕ)) : Type 0 where
  pub room : length holders ≡ length of
  pub places : (class : ℕ) → class < length of → IsSeen of n class (get_or holders class None)
  pub once : (i j : ℕ) → i < j → j < n → slice_index of i ≡ slice_index of j → ⊥

-- the first place among the first n classes whose class stands before
pub record IsFirstAgain (of : List ℕ) (n place : ℕ) : Type 0 where
  pub first : ℕ
  pub before : first < place
  pub within : place < n
  pub same : slice_index of first ≡ slice_index of place
  pub none_before : (i j : ℕ) → i < j → j < place → slice_index of i ≡ slice_index of j → ⊥

-- memory ran out, or the first class that stands twice is told
abbrev pub IsRefusedClass : List ℕ → ℕ → TagRefusal → Type 0
IsRefusedClass of n (Doubled place) = IsFirstAgain of n place
IsRefusedClass of n (Unknown place) = ⊥
IsRefusedClass of n OutOfMemory = Unit {0}

-- for each of the first n classes behind `from` the place among the first `from` where it stands
pub record AreFound (of : List ℕ) (from n : ℕ) (found : List ℕ) : Type 0 where
  pub size : length found ≡ n
  pub each : (k : ℕ) → k < n → (slice_index found k < from) × (slice_index of (slice_index found k) ≡ slice_index of (from + k))

-- the first class behind `from` that none of the first `from` is
pub record IsFirstMissing (of : List ℕ) (from n place : ℕ) : Type 0 where
  pub within : place < n
  pub missing : (i : ℕ) → i < from → slice_index of i ≡ slice_index of (from + place) → ⊥
  pub there_before : (k : ℕ) → k < place → ((i : ℕ) → i < from → slice_index of i ≡ slice_index of (from + k) → ⊥) → ⊥

-- memory ran out, or the first class that is missing is told
abbrev pub IsRefusedFind : List ℕ → ℕ → ℕ → TagRefusal → Type 0
IsRefusedFind of from n (Doubled place) = ⊥
IsRefusedFind of from n (Unknown place) = IsFirstMissing of from n place
IsRefusedFind of from n OutOfMemory = Unit {0}
