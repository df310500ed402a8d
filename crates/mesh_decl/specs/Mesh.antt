-- Meshes as lists of what was declared.
use Rattle.std.specs.Prelude.{◌≡◌, ℕ, zero, suc, ℤ, pos, negsuc, ◌+◌, ◌*◌, ◌^◌, ◌<◌, Bool, true, false, nat_lt, List, [], ◌∷◌, ◌++◌, length, map, All, slice_index, slice_index_or, unsigned_abs}
use Rattle.mesh_decl.specs.declared.decl.SetDecl.{SetDecl}
use Rattle.mesh_decl.specs.declared.decl.MapDecl.{MapDecl}
use Rattle.mesh_decl.specs.declared.decl.DatDecl.{DatDecl}
use Rattle.mesh_decl.specs.declared.decl.MapRefusal.{MapRefusal}
use Rattle.mesh_decl.specs.declared.decl.MapRefusal.TheVariants.{Target, OutOfMemory}

-- the sets, maps and dats in order of declaration
pub record MeshValue : Type 0 where
  pub sets : List SetDecl
  pub maps : List MapDecl
  pub dats : List DatDecl

-- nothing is declared
abbrev pub no_mesh : MeshValue
no_mesh = record { sets = []; maps = []; dats = [] }

-- how many sets are declared
abbrev pub set_count : MeshValue → ℕ
set_count g = length g.sets

-- how many maps are declared
abbrev pub map_count : MeshValue → ℕ
map_count g = length g.maps

-- how many dats are declared
abbrev pub dat_count : MeshValue → ℕ
dat_count g = length g.dats

-- of a set in a list, how many elements it has
unfoldable pub size_in : List SetDecl → ℕ → ℕ
size_in sets s = slice_index (map (λ (d : SetDecl). d.size) sets) s

-- how many elements a set has
abbrev pub set_size : MeshValue → ℕ → ℕ
set_size g s = size_in g.sets s

-- the name of a set
unfoldable pub set_name : MeshValue → ℕ → List ℕ
set_name g s = slice_index_or (map (λ (d : SetDecl). d.name) g.sets) s []

-- the set from which a map leads
unfoldable pub map_from : MeshValue → ℕ → ℕ
map_from g m = slice_index (map (λ (d : MapDecl). d.from) g.maps) m

-- the set to which a map leads
unfoldable pub map_to : MeshValue → ℕ → ℕ
map_to g m = slice_index (map (λ (d : MapDecl). d.to) g.maps) m

-- how many targets a map has for each element
unfoldable pub map_dim : MeshValue → ℕ → ℕ
map_dim g m = slice_index (map (λ (d : MapDecl). d.dim) g.maps) m

-- the name of a map
unfoldable pub map_name : MeshValue → ℕ → List ℕ
map_name g m = slice_index_or (map (λ (d : MapDecl). d.name) g.maps) m []

-- the targets of a map, element by element
unfoldable pub map_targets : MeshValue → ℕ → List ℤ
map_targets g m = slice_index_or (map (λ (d : MapDecl). d.targets) g.maps) m []

-- the target at a place of an element
unfoldable pub target : MeshValue → ℕ → ℕ → ℕ → ℕ
target g m element place = unsigned_abs (slice_index_or (map_targets g m) (element * map_dim g m + place) (pos 0))

-- the set that a dat stands on
unfoldable pub dat_set : MeshValue → ℕ → ℕ
dat_set g d = slice_index (map (λ (e : DatDecl). e.set) g.dats) d

-- how many values a dat has for each element
unfoldable pub dat_dim : MeshValue → ℕ → ℕ
dat_dim g d = slice_index (map (λ (e : DatDecl). e.dim) g.dats) d

-- the name of a dat
unfoldable pub dat_name : MeshValue → ℕ → List ℕ
dat_name g d = slice_index_or (map (λ (e : DatDecl). e.name) g.dats) d []

-- the values of a dat, element by element
unfoldable pub dat_values : MeshValue → ℕ → List ℤ
dat_values g d = slice_index_or (map (λ (e : DatDecl). e.values) g.dats) d []

-- the dats, where the one of that number has these values
abbrev pub with_values : List DatDecl → ℕ → List ℤ → List DatDecl
with_values [] d zs = []
with_values (x ∷ xs) zero zs = record x { values = zs } ∷ xs
with_values (x ∷ xs) (suc d) zs = x ∷ with_values xs d zs

-- the number is that of an element of a set of this size
abbrev pub is_element : ℕ → ℤ → Bool
is_element size (pos n) = nat_lt n size
is_element size (negsuc n) = false

-- each number is that of an element of a set of this size
abbrev pub AreElements : ℕ → List ℤ → Type 0
AreElements size targets = All (λ t. is_element size t ≡ true) targets

-- a map between these sets, with its targets
pub record IsMap (sets : List SetDecl) (d : MapDecl) : Type 0 where
  pub from : d.from < length sets
  pub to : d.to < length sets
  pub some : 0 < d.dim
  pub dim : d.dim < 2 ^ 32
  pub length : length d.targets ≡ size_in sets d.from * d.dim
  pub elements : AreElements (size_in sets d.to) d.targets

-- a dat on one of these sets, with its values
pub record IsDat (sets : List SetDecl) (d : DatDecl) : Type 0 where
  pub set : d.set < length sets
  pub some : 0 < d.dim
  pub dim : d.dim < 2 ^ 32
  pub length : length d.values ≡ size_in sets d.set * d.dim

-- All lengths fit, and all targets are elements.
pub record IsMesh (g : MeshValue) : Type 0 where
  pub few_sets : set_count g < 2 ^ 32
  pub few_maps : map_count g < 2 ^ 32
  pub few_dats : dat_count g < 2 ^ 32
  pub sizes : All (λ (d : SetDecl). d.size < 2 ^ 32) g.sets
  pub maps : All (IsMap g.sets) g.maps
  pub dats : All (IsDat g.sets) g.dats

-- what is so of a map by its number
pub record IsMapAt (g : MeshValue) (m : ℕ) : Type 0 where
  pub from : map_from g m < set_count g
  pub to : map_to g m < set_count g
  pub some : 0 < map_dim g m
  pub dim : map_dim g m < 2 ^ 32
  pub length : length (map_targets g m) ≡ set_size g (map_from g m) * map_dim g m
  pub within : (element place : ℕ) → element < set_size g (map_from g m) → place < map_dim g m
      → target g m element place < set_size g (map_to g m)

-- what is so of a dat by its number
pub record IsDatAt (g : MeshValue) (d : ℕ) : Type 0 where
  pub set : dat_set g d < set_count g
  pub some : 0 < dat_dim g d
  pub dim : dat_dim g d < 2 ^ 32
  pub length : length (dat_values g d) ≡ set_size g (dat_set g d) * dat_dim g d

-- what is so of every mesh, by the numbers of its sets, maps and dats
pub record IsInRange (g : MeshValue) : Type 0 where
  pub sizes : (s : ℕ) → set_size g s < 2 ^ 32
  pub maps : (m : ℕ) → m < map_count g → IsMapAt g m
  pub dats : (d : ℕ) → d < dat_count g → IsDatAt g d

-- The first target that is no element of a set of this size stands at this index.
pub record IsFirstBad (size : ℕ) (targets : List ℤ) (index : ℕ) : Type 0 where
  pub good : List ℤ
  pub bad : ℤ
  pub later : List ℤ
  pub whole : targets ≡ good ++ bad ∷ later
  pub at : length good ≡ index
  pub before : AreElements size good
  pub no_element : is_element size bad ≡ false

-- the refusal names the first bad target, by its element and its place among the element's targets
abbrev pub RefusesTarget : ℕ → ℕ → List ℤ → MapRefusal → Type 0
RefusesTarget size dim targets (Target element place) = IsFirstBad size targets (element * dim + place) × (place < dim)
RefusesTarget size dim targets OutOfMemory = ⊥
