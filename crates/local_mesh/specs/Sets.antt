-- A set of ranks for each element of each set of a mesh.
use Rattle.std.specs.Prelude.{◌≡◌, ℕ, Bool, ◌<◌, List, [], Vec, map, length, slice_index_or}
use Rattle.std.specs.declared.alloc.Global.{Global}
use Rattle.local_mesh.specs.declared.rank_sets.rank_set.RankSet.{RankSet}
use Rattle.mesh_decl.specs.Mesh.{MeshValue, set_count, set_size}
use Rattle.mesh_decl.specs.declared.owners.Owners.{Owners}
use Rattle.local_mesh.specs.Halo.{executes}
use Rattle.local_mesh.specs.RankSet.{has_at}

-- the sets of ranks of one set's elements
unfoldable pub sets_in : List (Vec RankSet Global) → ℕ → List RankSet
sets_in ranks s = slice_index_or (map (λ (v : Vec RankSet Global). v.items) ranks) s []

-- of set s, element x has rank r
abbrev pub has_in : List (Vec RankSet Global) → ℕ → ℕ → ℕ → Bool
has_in ranks s x r = has_at (sets_in ranks s) x r

-- one for each element of each set
pub record AreSets (g : MeshValue) (ranks : List (Vec RankSet Global)) : Type 0 where
  pub count : length ranks ≡ set_count g
  pub lengths : (s : ℕ) → s < set_count g → length (sets_in ranks s) ≡ set_size g s

-- the ranks that execute each element
pub record AreExecuting (g : MeshValue) (o : Owners) (ranks : List (Vec RankSet Global)) : Type 0 where
  pub sets : AreSets g ranks
  pub has : (s x r : ℕ) → s < set_count g → x < set_size g s → has_in ranks s x r ≡ executes g o s x r
