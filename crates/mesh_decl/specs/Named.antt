-- Sets, maps and dats by their names.
use Rattle.std.specs.Prelude.{◌≡◌, ◌≢◌, ℕ, ◌<◌, List, Option, Some, None}
use Rattle.mesh_decl.specs.Mesh.{MeshValue, set_count, map_count, dat_count, set_name, map_name, dat_name}

-- of the numbers below n, k is the first that has this name
pub record IsFirstNamed (n : ℕ) (name_of : ℕ → List ℕ) (name : List ℕ) (k : ℕ) : Type 0 where
  pub within : k < n
  pub is : name_of k ≡ name
  pub first : (j : ℕ) → j < k → name_of j ≢ name

-- the first number below n that has this name, or none where no number has it
abbrev pub Names : ℕ → (ℕ → List ℕ) → List ℕ → Option ℕ → Type 0
Names n name_of name (Some k) = IsFirstNamed n name_of name k
Names n name_of name None = (k : ℕ) → k < n → name_of k ≢ name

-- the first set of this name
abbrev pub NamesSet : MeshValue → List ℕ → Option ℕ → Type 0
NamesSet g name = Names (set_count g) (set_name g) name

-- the first map of this name
abbrev pub NamesMap : MeshValue → List ℕ → Option ℕ → Type 0
NamesMap g name = Names (map_count g) (map_name g) name

-- the first dat of this name
abbrev pub NamesDat : MeshValue → List ℕ → Option ℕ → Type 0
NamesDat g name = Names (dat_count g) (dat_name g) name

-- a name names one number, or none
abbrev pub NamesOne : Type 0
NamesOne =
    (n : ℕ) (name_of : ℕ → List ℕ) (name : List ℕ) (a b : Option ℕ)
    → Names n name_of name a
    → Names n name_of name b
    → a ≡ b
