-- Bytes cut at a separator.
use Rattle.std.specs.Prelude.{ℕ, nat_eq, List, [], Option, Some, None}
use Rattle.std.specs.Borrow.{Bor}
use Rattle.std.specs.List.{slice_split}

-- the parts of bytes: what stands before, between and behind the separators
abbrev pub parts : (separator : ℕ) → List ℕ → List (List ℕ)
parts separator bytes = slice_split (λ b. nat_eq b separator) bytes

-- those of what is left, where something is
abbrev pub parts_to_come : (separator : ℕ) → Option (Bor (List ℕ)) → List (List ℕ)
parts_to_come separator None = []
parts_to_come separator (Some rest) = parts separator rest.now
