-- The tokens of a partition of a mesh.
use Rattle.std.specs.Prelude.{◌≡◌, ℕ, ◌<◌, List, [], ◌∷◌, ◌++◌, length, map, slice_get, slice_set, Option, Some, None, codes}
use lib.ListN.{replicate}
use Rattle.op_num.specs.Spelling.{number_of}
use Rattle.op_num.specs.Cut.{texts}
use Rattle.mesh_decl.specs.Mesh.{MeshValue, set_count, set_size, set_name}

-- for each set the ranks of its elements, or none so far
abbrev pub Table : Type 0
Table = List (Option (List ℕ))

-- no set has its ranks
abbrev pub no_ranks : MeshValue → Table
no_ranks g = replicate (set_count g) None

-- the set has this name, and no later set has it
pub record IsNamed (g : MeshValue) (name : List ℕ) (k : ℕ) : Type 0 where
  pub within : k < set_count g
  pub name_of : set_name g k ≡ name
  pub last : (j : ℕ) → k < j → j < set_count g → set_name g j ≡ name → ⊥

-- Each token is a rank in digits, leading zeros allowed, and is below the number of ranks.
abbrev pub AreRanks : ℕ → List (List ℕ) → List ℕ → Type 0
AreRanks ranks [] rs = rs ≡ []
AreRanks ranks (t ∷ ts) rs = (r : ℕ) × (rest : List ℕ) × (rs ≡ r ∷ rest) × (number_of t ≡ Some r) × (r < ranks) × AreRanks ranks ts rest

-- the tokens of a set's ranks: `set`, its name, its size in digits, and a rank for each element
abbrev pub IsSet : MeshValue → ℕ → List (List ℕ) → ℕ → List ℕ → Type 0
IsSet g ranks ts k rs =
    (name : List ℕ) × (count : List ℕ) × (digits : List (List ℕ)) × (ts ≡ codes "set" ∷ name ∷ count ∷ digits) × IsNamed g name k
    × (number_of count ≡ Some (set_size g k)) × (length rs ≡ set_size g k) × AreRanks ranks digits rs

-- a set, and the ranks of its elements
abbrev pub Given : Type 0
Given = ℕ × List ℕ

-- The tokens give these sets, in this order, their ranks; none of them had ranks before. So one table becomes the other.
abbrev pub AreSets : MeshValue → ℕ → List (List ℕ) → List Given → Table → Table → Type 0
AreSets g ranks ts [] before after = (ts ≡ []) × (before ≡ after)
AreSets g ranks ts (s ∷ ss) before after =
    (front : List (List ℕ)) × (rest : List (List ℕ)) × (ts ≡ front ++ rest) × IsSet g ranks front s.0 s.1
    × (slice_get before s.0 ≡ Some None) × AreSets g ranks rest ss (slice_set before s.0 (Some s.1)) after

-- the header, and sets with their ranks
abbrev pub ArePart : MeshValue → ℕ → List (List ℕ) → Table → Type 0
ArePart g ranks ts table = (body : List (List ℕ)) × (given : List Given) × (ts ≡ codes "op2part" ∷ codes "1" ∷ body)
    × AreSets g ranks body given (no_ranks g) table

-- The bytes, cut into tokens at blanks, are the header, each set once, in any order, with the ranks of its elements, and `done`.
abbrev pub Spells : MeshValue → ℕ → List ℕ → List (List ℕ) → Type 0
Spells g ranks bytes owners = (ts : List (List ℕ)) × (texts bytes ≡ ts ++ codes "done" ∷ [])
    × ArePart g ranks ts (map (λ rs. Some rs) owners)
