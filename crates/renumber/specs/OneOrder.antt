-- That an order of taking is one.
use Rattle.std.specs.Prelude.{◌≡◌, ℕ, ◌^◌, ◌<◌, Bool, List, length}
use Rattle.mesh_decl.specs.Mesh.{MeshValue}
use Rattle.renumber.specs.Taken.{IsTaken}
use Rattle.renumber.specs.Degrees.{degree_order}

-- different elements have different keys
abbrev pub AreApart : ℕ → (ℕ → ℕ) → Type 0
AreApart n key = (x y : ℕ) → x < n → y < n → key x ≡ key y → x ≡ y

-- by keys that are apart there is one order of all elements
abbrev pub IsOneOrder : Type 0
IsOneOrder =
    (n : ℕ) (near : ℕ → ℕ → Bool) (key : ℕ → ℕ) (a b : List ℕ)
    → AreApart n key
    → length a ≡ n
    → length b ≡ n
    → IsTaken n near key a
    → IsTaken n near key b
    → a ≡ b

-- different numbers of 32 bits have different keys by (degree, number)
abbrev pub DegreesAreApart : Type 0
DegreesAreApart = (g : MeshValue) (m : ℕ) → AreApart (2 ^ 32) (degree_order g m)
