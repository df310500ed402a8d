-- Neighbours by a map.
use Rattle.std.specs.Prelude.{◌≡◌, ℕ, zero, suc, ◌<◌, Bool, not, ◌&&◌, nat_eq, List, [], ◌++◌, length, replicate, slice_index_or}
use Rattle.lemmas.specs.Below.{any_below, count_below}
use Rattle.mesh_decl.specs.Mesh.{MeshValue, set_size, map_from, map_to, map_dim, target}

-- element e has target x by map m
unfoldable pub has_target : MeshValue → ℕ → ℕ → ℕ → Bool
has_target g m e x = any_below (map_dim g m) (λ i. nat_eq (target g m e i) x)

-- two different elements that one element has both as targets
unfoldable pub are_neighbours : MeshValue → ℕ → ℕ → ℕ → Bool
are_neighbours g m x y = any_below (set_size g (map_from g m)) (λ e. has_target g m e y && has_target g m e x) && not (nat_eq x y)

-- how often x is a target of element e
unfoldable pub times : MeshValue → ℕ → ℕ → ℕ → ℕ
times g m e x = count_below (map_dim g m) (λ i. nat_eq (target g m e i) x)

-- the elements below n that have x as a target, in increasing order, each as often as it has it
abbrev pub havers : MeshValue → ℕ → ℕ → ℕ → List ℕ
havers g m zero x = []
havers g m (suc n) x = havers g m n x ++ replicate (times g m n x) n

-- for each target the elements that have it
pub record IsInverse (g : MeshValue) (m : ℕ) (rows : List (List ℕ)) : Type 0 where
  pub count : length rows ≡ set_size g (map_to g m)
  pub row : (x : ℕ) → x < set_size g (map_to g m) → slice_index_or rows x [] ≡ havers g m (set_size g (map_from g m)) x
