-- Which rank an element gets by the most frequent owner.
use Rattle.std.specs.Prelude.{ℕ, zero, suc, ◌*◌, ◌/◌, ◌%◌, ◌<◌, ◌≤◌, Bool, ◌&&◌, cond, nat_eq, List, [], ◌∷◌, ◌++◌, slice_index}
use Rattle.mesh_decl.specs.Mesh.{MeshValue, set_size, map_from, map_dim, target}
use Rattle.lemmas.specs.Below.{any_below, count_below}

-- rank r has the most votes, and each lower rank has fewer
pub record IsElected (ranks : ℕ) (votes : ℕ → ℕ) (r : ℕ) : Type 0 where
  pub within : r < ranks
  pub most : (q : ℕ) → q < ranks → votes q ≤ votes r
  pub first : (q : ℕ) → q < r → votes q < votes r

-- by map m, how many targets of element x rank r owns, where the list has the owners of the set to which the map leads
unfoldable pub target_votes : MeshValue → List ℕ → ℕ → ℕ → ℕ → ℕ
target_votes g owners m x r = count_below (map_dim g m) (λ i. nat_eq (slice_index owners (target g m x i)) r)

-- entry e of map m, counted through all elements and places, names y
unfoldable pub names : MeshValue → ℕ → ℕ → ℕ → Bool
names g m y e = nat_eq (target g m (e / map_dim g m) (e % map_dim g m)) y

-- how many entries map m has
abbrev pub entries : MeshValue → ℕ → ℕ
entries g m = set_size g (map_from g m) * map_dim g m

-- by map m, how many entries name y from an element that rank r owns, where the list has the owners of the set from which the map leads
unfoldable pub naming_votes : MeshValue → List ℕ → ℕ → ℕ → ℕ → ℕ
naming_votes g owners m y r = count_below (entries g m) (λ e. names g m y e && nat_eq (slice_index owners (e / map_dim g m)) r)

-- by map m, some entry names y
unfoldable pub is_named : MeshValue → ℕ → ℕ → Bool
is_named g m y = any_below (entries g m) (names g m y)

-- what f gives for each number below n that passes, in increasing order of these
abbrev pub gathered : ℕ → (ℕ → Bool) → (ℕ → ℕ) → List ℕ
gathered zero p f = []
gathered (suc n) p f = gathered n p f ++ cond (p n) (f n ∷ []) []
