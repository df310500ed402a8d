-- What was seen of files in a call, and what is known of them by that.
use Rattle.std.specs.Prelude.{◌≡◌, ℕ, List, Option, Some, None, [], IfSome, IsSome, if◌then◌else◌}
use Rattle.std.specs.Str.{bytes_eq}
use Rattle.op_outside.specs.Outside.{Files}

-- what was seen: of a name nothing, or what is held under it, if anything is
abbrev pub Seen : Type 0
Seen = List ℕ → Option (Option (List ℕ))

-- before the first file is read
abbrev pub nothing_seen : Seen
nothing_seen name = None

-- what was seen before, and under this name what is held, or nothing
abbrev pub seen_with : Seen → List ℕ → Option (List ℕ) → Seen
seen_with seen name held other = if bytes_eq other name then Some held else seen other

-- files that are as they were seen
abbrev pub Agree : Seen → Files → Type 0
Agree seen files = (name : List ℕ) → IfSome (seen name) (λ held. files name ≡ held)

-- what was seen stays so
abbrev pub Grows : (before after : Seen) → Type 0
Grows before after = (name : List ℕ) → IfSome (before name) (λ held. after name ≡ Some held)

-- The files that are told are as they were seen; where none are told, each file that was seen is there.
pub record IsSight (told : Option Files) (seen : Seen) : Type 0 where
  pub so : IfSome told (Agree seen)
  pub there : told ≡ None → (name : List ℕ) → IfSome (seen name) IsSome

-- files that are as they were seen, and hold all that was not
abbrev pub files_of : Seen → Files
files_of seen name = held (seen name)
  where
    held : Option (Option (List ℕ)) → Option (List ℕ)
    held None = Some []
    held (Some o) = o
