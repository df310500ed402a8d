-- The readings of files that are still to come in a call, and what a part of the call finds.
use Rattle.std.specs.Prelude.{◌≡◌, ℕ, ◌<◌, List, [], ◌∷◌, ◌++◌, length, map, Option, Some, None, option_map, IfSome, if◌then◌else◌}
use Rattle.std.specs.Str.{bytes_eq}
use Rattle.op_outside.specs.Outside.{Files, Holds}
use Rattle.job_inputs.specs.Seen.{Seen, Agree, Grows, IsSight}

-- the readings that are still to come, in order: of which name, and its bytes, if they are kept
abbrev pub Readings : Type 0
Readings = List (List ℕ × Option (List ℕ))

-- of which names they are
abbrev pub names_of : Readings → List (List ℕ)
names_of rs = map (λ (r : List ℕ × Option (List ℕ)). r.0) rs

-- the next readings are of these names
abbrev pub AreNext : List (List ℕ) → Readings → Type 0
AreNext names rs = (rest : List (List ℕ)) × (names_of rs ≡ names ++ rest)

-- the readings of these names have come, and the others are still to come
abbrev pub HaveCome : List (List ℕ) → (old new : Readings) → Type 0
HaveCome names old new = (rest : List (List ℕ)) → names_of old ≡ names ++ rest → names_of new ≡ rest

-- readings of these names, of which nothing is kept
abbrev pub readings_of : List (List ℕ) → Readings
readings_of names = map (λ (name : List ℕ). (name, None)) names

-- the bytes that the first reading of this name has, if there is one, and if they are kept
abbrev pub kept_for : Readings → List ℕ → Option (Option (List ℕ))
kept_for [] name = None
kept_for (r ∷ rs) name = if bytes_eq r.0 name then Some r.1 else kept_for rs name

-- the first reading of this name, if there is one, has these bytes
abbrev pub keeping : Readings → List ℕ → List ℕ → Readings
keeping [] name bytes = []
keeping (r ∷ rs) name bytes = if bytes_eq r.0 name then (r.0, Some bytes) ∷ rs else r ∷ keeping rs name bytes

-- of each name that is still to be read, what was seen is kept
abbrev pub Keeps : Readings → Seen → Type 0
Keeps rs seen = (name : List ℕ) → IfSome (kept_for rs name) (λ bytes. seen name ≡ option_map Some bytes)

-- This was seen so far in a call, in which these readings are still to come.
pub record IsSeen (told : Option Files) (rs : Readings) (seen : Seen) : Type 0 where
  pub sight : IsSight told seen
  pub keeps : Keeps rs seen

-- More is seen then, these readings are still to come, and K is so of all files that are as they were seen.
pub record Knows (told : Option Files) (rs : Readings) (before : Seen) (K : Files → Type 0) : Type 0 where
  pub after : Seen
  pub grows : Grows before after
  pub seen : IsSeen told rs after
  pub all : (files : Files) → Agree after files → K files

-- whatever was seen before, where these readings were still to come, K is known, where those are
abbrev pub Finds : Option Files → (old new : Readings) → (Files → Type 0) → Type 0
Finds told old new K = (before : Seen) → IsSeen told old before → Knows told new before K

-- whatever was seen before, this name was not
abbrev pub IsUnseen : Option Files → (old : Readings) → (name : List ℕ) → Type 0
IsUnseen told old name = (before : Seen) → IsSeen told old before → before name ≡ None

-- A file is larger than the limit: what is kept of it, or, where nothing is, what it holds.
abbrev pub IsLarge : Option Files → List ℕ → (limit : ℕ) → (kept : Option (List ℕ)) → Type 0
IsLarge told name limit (Some bytes) = limit < length bytes
IsLarge told name limit None = Holds told name (λ bytes. limit < length bytes)
